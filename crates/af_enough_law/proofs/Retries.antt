-- A track with two retries or more isn't disabled, and a turn takes one at most.
use Rattle.std.proofs.Common.{◌≡◌, ℕ, ◌+◌, ◌≤◌, ◌<◌, ◌||◌, nat_lt, true, false, refl, ap, arith}
use Rattle.af_enough_law.proofs.Common.{Known, Life, by_report, retries_after}
use Rattle.af_enough_law.proofs.Courses.{Course, absent, idle, playing, stopping, drained, stopped, over}
use Rattle.af_enough_law.proofs.Coursing.{playing_reported, retries_fall, retries_back, wet_by_two}

-- ## How many are left

plays_on : (count : ℕ) (l : Life) → Course count 2 l → (l.ended ≡ false) × (1 ≤ l.retries) × (l.retries ≤ 50)
plays_on count l (playing retries some few) = (refl, some, few)

-- What a report leaves of the retries of a life that plays: one less at most, and 49 or 50 if frames were heard of
pub retries_left : (count : ℕ) (known : Known) (l : Life) → Course count 2 l → known.shut ≡ false → 2 ≤ l.retries
    → (l.retries ≤ (by_report known l).retries + 1) × ((nat_lt 0 known.fulls || nat_lt 0 known.partials) ≡ true → 49 ≤ (by_report known l).retries)
retries_left count known l there unshut two =
    let p = plays_on count l there in
    let is : (by_report known l).retries ≡ retries_after known l.retries = ap (λ (x : Life). x.retries) (playing_reported count known l unshut (wet_by_two known l two p.2) there) in
    let fall = retries_fall known l.retries p.1 p.2 in (
      omega arith,
      λ fresh. let back = retries_back known l.retries fresh in omega arith,
    )

-- ## A round

-- a life that has not been removed has not ended
pub course_alive : (count k : ℕ) (l : Life) → Course count k l → k < 4 → l.ended ≡ false
course_alive count k l absent low = refl
course_alive count k l idle low = refl
course_alive count k l (playing retries some few) low = refl
course_alive count k l (stopping retries) low = refl
course_alive count k l (drained retries) low = refl
course_alive count k l (stopped retries) low = refl
course_alive count k l (over life e) low = absurd (omega (arith, low))
