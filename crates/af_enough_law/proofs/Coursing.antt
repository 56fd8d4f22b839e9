-- How a track that plays through lives.
use Rattle.std.proofs.Common.{◌≡◌, ℕ, zero, suc, ◌+◌, ◌-◌, ◌<◌, ◌≤◌, ◌==◌, ◌&&◌, ◌||◌, not, nat_le, nat_lt, Bool, true, false, min, refl, sym, ap, ◌∙◌, subst, arith, true≢false, Option, if◌then◌else◌}
use Rattle.af_enough_law.proofs.Common.{Active, Known, Life, Stopping1, Stopping2, TrackKept, and_none, by_command, by_report, commands, first_effect, not_zero, opens, plays, retries_after, runs_dry, and_false}
use Rattle.af_life.specs.State.{life_code}
use Rattle.af_enough_law.proofs.Courses.{told_all, starts_at_once, code_at, argument_at, course, life_in, Course, absent, idle, playing, stopping, drained, stopped, over, stage, is_heard}

-- ## A command

-- a life that has ended stays as it is
pub ended_same : (code argument : ℕ) (l : Life) → l.ended ≡ true → by_command code argument l ≡ l
unfolding by_command
ended_same code argument l e = ap (λ (b : Bool). if b then l else first_effect commands code argument l) e

pub course_told : (count k : ℕ) (l : Life) → k < 4 → Course count k l → Course count (suc k) (by_command (code_at k) (argument_at count k) l)
unfolding by_command
course_told count k l lt absent = idle
course_told count k l lt idle = playing 50 (omega arith) (omega arith)
course_told count k l lt (playing retries some few) = stopping retries
course_told count k l lt (stopping retries) = over _ refl
course_told count k l lt (drained retries) = over _ refl
course_told count k l lt (stopped retries) = over _ refl
course_told count k l lt (over life e) = absurd (omega arith)

abbrev step : Option ℕ → ℕ → ℕ → TrackKept → TrackKept
step given code argument s = record s { life = by_command code argument s.life; slot = if opens code s.life then given else s.slot; settled = s.settled + 1 }

-- a life on its course that takes more of the course
pub course_all : (count : ℕ) (given : Option ℕ) (more k : ℕ) (s : TrackKept) → k + more ≤ 4 → Course count k s.life → Course count (k + more) (told_all given (course count k more) s).life
course_all count given zero k s le c = let e : k + 0 ≡ k = omega arith in subst (λ (n : ℕ). Course count n s.life) (sym e) c
course_all count given (suc more) k s le c = let e : suc k + more ≡ k + suc more = omega arith in
    let t : TrackKept = step given (code_at k) (argument_at count k) s in
    subst (λ (n : ℕ). Course count n (told_all given (course count (suc k) more) t).life) e (course_all count given more (suc k) t (omega arith) (course_told count k s.life (omega arith) c))

-- no START of a course waits
pub course_starts : (count k more : ℕ) → starts_at_once (course count k more) ≡ true
course_starts count k zero = refl
course_starts count zero (suc more) = course_starts count 1 more
course_starts count (suc zero) (suc more) = course_starts count 2 more
course_starts count (suc (suc zero)) (suc more) = course_starts count 3 more
course_starts count (suc (suc (suc k))) (suc more) = course_starts count (suc (suc (suc (suc k)))) more

-- ## Retries

abbrev granted : Known → ℕ → ℕ
granted known retries = if nat_lt 0 known.fulls || nat_lt 0 known.partials then 50 else retries

left_of : (g : ℕ) (b : Bool) → 1 ≤ g → g ≤ 50 → (b && ((if b then g - 1 else g) == 0)) ≡ false → (1 ≤ (if b then g - 1 else g)) × ((if b then g - 1 else g) ≤ 50)
left_of g true some few wet = let e : (g - 1 == 0) ≡ false = wet in (grind arith, omega arith)
left_of g false some few wet = (some, few)

granted_some : (b : Bool) (r : ℕ) → 1 ≤ r → r ≤ 50 → (1 ≤ (if b then 50 else r)) × ((if b then 50 else r) ≤ 50) × (r ≤ (if b then 50 else r))
granted_some true r some few = (omega arith, omega arith, few)
granted_some false r some few = (some, few, omega arith)

one_less : (g : ℕ) (b : Bool) → g ≤ (if b then g - 1 else g) + 1
one_less g true = omega arith
one_less g false = omega arith

-- a report takes at most one
pub retries_fall : (known : Known) (retries : ℕ) → 1 ≤ retries → retries ≤ 50 → retries ≤ retries_after known retries + 1
retries_fall known retries some few =
    let g = granted_some (nat_lt 0 known.fulls || nat_lt 0 known.partials) retries some few in
    let low = g.2 in
    let o = one_less (granted known retries) (nat_lt 0 known.empties) in
    omega arith

-- frames that were seen bring them all back
pub retries_back : (known : Known) (retries : ℕ) → (nat_lt 0 known.fulls || nat_lt 0 known.partials) ≡ true → 49 ≤ retries_after known retries
retries_back known retries seen =
    let g : granted known retries ≡ 50 = ap (λ (b : Bool). if b then 50 else retries) seen in
    let o = one_less (granted known retries) (nat_lt 0 known.empties) in
    omega arith

-- a life runs dry only if none are left
pub wet_while : (known : Known) (l : Life) → 1 ≤ retries_after known l.retries → runs_dry known l ≡ false
unfolding runs_dry
wet_while known l some = and_none (not known.shut && not l.ended) _ (and_none _ _ (and_none (nat_lt 0 known.empties) _ (not_zero (retries_after known l.retries) some)))

-- two or more are enough
pub wet_by_two : (known : Known) (l : Life) → 2 ≤ l.retries → l.retries ≤ 50 → runs_dry known l ≡ false
wet_by_two known l some few = wet_while known l (let f = retries_fall known l.retries (omega arith) few in omega arith)

-- ## A report

abbrev calm : Known → Known
calm known = record known { shut = false }

calmly : (P : Known → Type 0) (known : Known) → known.shut ≡ false → P (calm known) → P known
calmly P known e p = subst (λ (b : Bool). P (record known { shut = b })) (sym e) p

-- all that was released before the stop is consumed, or not yet
stops_or_not : (count retries : ℕ) (b : Bool) → Course count 3 (if b then life_in Stopping2 true true retries count else life_in Stopping1 true false retries count)
stops_or_not count retries true = drained retries
stops_or_not count retries false = stopping retries

-- a life that has ended is in no mix
out_calm : (known : Known) (l : Life) → l.ended ≡ true → by_report (calm known) l ≡ record l { member = false }
unfolding by_report
out_calm known l e = subst (λ (b : Bool). by_report (calm known) (record l { ended = b }) ≡ record l { ended = b; member = false }) (sym e) refl

reported_calm : (count k : ℕ) (known : Known) (l : Life) → runs_dry (calm known) l ≡ false → Course count k l → Course count k (by_report (calm known) l)
unfolding by_report runs_dry
reported_calm count k known l wet absent = absent
reported_calm count k known l wet idle = idle
reported_calm count k known l wet (playing retries some few) =
    let g = granted_some (nat_lt 0 known.fulls || nat_lt 0 known.partials) retries some few in
    let left = left_of (granted known retries) (nat_lt 0 known.empties) g.0 g.1 wet in
    subst (λ (b : Bool). Course count 2 (life_in Active (not b) false (retries_after known retries) 0)) (sym wet) (playing (retries_after known retries) left.0 left.1)
reported_calm count k known l wet (stopping retries) = stops_or_not count retries (nat_le count known.consumed)
reported_calm count k known l wet (drained retries) = stopped retries
reported_calm count k known l wet (stopped retries) = stopped retries
reported_calm count k known l wet (over life e) = over (by_report (calm known) l) (ap (λ (x : Life). x.ended) (out_calm known l e) ∙ e)

-- what a report makes of a course
pub course_reported : (count k : ℕ) (known : Known) (l : Life) → known.shut ≡ false → runs_dry known l ≡ false → Course count k l → Course count k (by_report known l)
course_reported count k known l open_is wet c = calmly (λ (n : Known). runs_dry n l ≡ false → Course count k (by_report n l)) known open_is (λ w. reported_calm count k known l w c) wet

pub over_out : (known : Known) (l : Life) → known.shut ≡ false → l.ended ≡ true → by_report known l ≡ record l { member = false }
over_out known l open_is e = calmly (λ (n : Known). by_report n l ≡ record l { member = false }) known open_is (out_calm known l e)

-- what a calm report makes of a track that plays
playing_calm : (count : ℕ) (known : Known) (l : Life) → runs_dry (calm known) l ≡ false → Course count 2 l → by_report (calm known) l ≡ record l { retries = retries_after known l.retries }
unfolding by_report runs_dry
playing_calm count known l wet (playing retries some few) = ap (λ (b : Bool). life_in Active (not b) false (retries_after known retries) 0) wet

pub playing_reported : (count : ℕ) (known : Known) (l : Life) → known.shut ≡ false → runs_dry known l ≡ false → Course count 2 l → by_report known l ≡ record l { retries = retries_after known l.retries }
playing_reported count known l open_is wet c = calmly (λ (n : Known). runs_dry n l ≡ false → by_report n l ≡ record l { retries = retries_after n l.retries }) known open_is (λ w. playing_calm count known l w c) wet

-- ## The way to the stop

stage_stopping : (count retries consumed : ℕ) (b : Bool) → nat_le count consumed ≡ b → let t = if b then life_in Stopping2 true true retries count else life_in Stopping1 true false retries count in (1 ≤ stage t) × (count ≤ consumed → 2 ≤ stage t)
stage_stopping count retries consumed true e = (omega arith, (λ h. omega arith))
stage_stopping count retries consumed false e = (omega arith, (λ h. absurd (true≢false (sym (search (arith, h)) ∙ e))))

stage_calm : (count : ℕ) (known : Known) (l : Life) → Course count 3 l → (stage l ≤ stage (by_report (calm known) l)) × (count ≤ known.consumed → min 3 (stage l + 1) ≤ stage (by_report (calm known) l)) × (2 ≤ stage l → stage (by_report (calm known) l) ≡ 3)
unfolding by_report
stage_calm count known l (stopping retries) = let s = stage_stopping count retries known.consumed (nat_le count known.consumed) refl in (s.0, s.1, (λ h. absurd (omega arith)))
stage_calm count known l (drained retries) = (omega arith, (λ h. omega arith), (λ h. refl))
stage_calm count known l (stopped retries) = (omega arith, (λ h. omega arith), (λ h. refl))

-- A report never takes a stopping track back, brings it on if all before the stop is consumed, and from Stopping2 to its end
pub stage_reported : (count : ℕ) (known : Known) (l : Life) → known.shut ≡ false → Course count 3 l → (stage l ≤ stage (by_report known l)) × (count ≤ known.consumed → min 3 (stage l + 1) ≤ stage (by_report known l)) × (2 ≤ stage l → stage (by_report known l) ≡ 3)
stage_reported count known l open_is c = calmly (λ (n : Known). (stage l ≤ stage (by_report n l)) × (count ≤ n.consumed → min 3 (stage l + 1) ≤ stage (by_report n l)) × (2 ≤ stage l → stage (by_report n l) ≡ 3)) known open_is (stage_calm count known l c)

-- a track on its course is to be heard by its stage
pub course_plays : (count k : ℕ) (l : Life) → Course count k l → plays l ≡ is_heard k (stage l)
course_plays count k l absent = refl
course_plays count k l idle = refl
course_plays count k l (playing retries some few) = refl
course_plays count k l (stopping retries) = refl
course_plays count k l (drained retries) = refl
course_plays count k l (stopped retries) = refl
course_plays count k l (over life e) = ap (λ (b : Bool). life.member && not b) e ∙ and_false life.member

-- the code of a stopped track is 8
pub stopped_code : (count : ℕ) (l : Life) → Course count 3 l → stage l ≡ 3 → (life_code l.state ≡ 8) × (l.drained ≡ true)
stopped_code count l (stopping retries) e = absurd (omega arith)
stopped_code count l (drained retries) e = absurd (omega arith)
stopped_code count l (stopped retries) e = (refl, refl)
