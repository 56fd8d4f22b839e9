-- The retries of a track that plays and that the normal mixer mixes, in numbers: a round keeps what makes them two at least.
use Rattle.std.proofs.Common.{◌≡◌, ℕ, suc, ◌+◌, ◌≤◌, ◌==◌, not, if◌then◌else◌, Bool, true, false, List, [], ◌∷◌, length, refl, ap, ◌∙◌, arith}
use Rattle.af_enough_law.proofs.Common.{Counts, Seen, TakeSeen, TrackKept, count_seen, look_counted, no_counts, takes_from}
use Rattle.af_base.specs.declared.seen.Seen.TheVariants as seen
use Rattle.af_enough_law.proofs.FastWords.{IsShown}
use Rattle.af_enough_law.proofs.TrackTurns.{own_after}

-- ## Its own looks

none_own : (asked i : ℕ) (counts : Counts) (takes : List TakeSeen) → takes_from takes i ≡ [] → own_after asked i counts takes ≡ counts
none_own asked i counts [] is = refl
none_own asked i counts (take ∷ takes) is = by (take.track == i) is (λ c e. none_own asked i c takes e)
  where
    by : (b : Bool) → (if b then take ∷ takes_from takes i else takes_from takes i) ≡ [] → ((c : Counts) → takes_from takes i ≡ [] → own_after asked i c takes ≡ c) → own_after asked i (if b then look_counted asked take.slot.seen counts else counts) takes ≡ counts
    by true e rest = absurd (let z : suc (length (takes_from takes i)) ≡ 0 = ap length e in omega (arith, z))
    by false e rest = rest counts e

tail_takes : List TakeSeen → List TakeSeen
tail_takes [] = []
tail_takes (t ∷ takes) = takes

first_seen : Seen → List TakeSeen → Seen
first_seen d [] = d
first_seen d (t ∷ takes) = t.slot.seen

-- the only take of a track leaves its look in the counts
pub one_own : (asked i : ℕ) (counts : Counts) (takes : List TakeSeen) (mix : TakeSeen) → takes_from takes i ≡ mix ∷ [] → own_after asked i counts takes ≡ look_counted asked mix.slot.seen counts
unfolding tail_takes first_seen
one_own asked i counts [] mix is = absurd (let z : 0 ≡ 1 = ap length is in omega (arith, z))
one_own asked i counts (take ∷ takes) mix is = by (take.track == i) is (λ c e. none_own asked i c takes e) (λ c e. one_own asked i c takes mix e)
  where
    by : (b : Bool) → (if b then take ∷ takes_from takes i else takes_from takes i) ≡ mix ∷ [] → ((c : Counts) → takes_from takes i ≡ [] → own_after asked i c takes ≡ c) → ((c : Counts) → takes_from takes i ≡ mix ∷ [] → own_after asked i c takes ≡ look_counted asked mix.slot.seen c)
        → own_after asked i (if b then look_counted asked take.slot.seen counts else counts) takes ≡ look_counted asked mix.slot.seen counts
    by true e none one = none (look_counted asked take.slot.seen counts) (ap tail_takes e) ∙ ap (λ (x : Seen). look_counted asked x counts) (ap (first_seen take.slot.seen) e)
    by false e none one = one counts e

-- the looks that showed frames
abbrev pub own_shown : TrackKept → ℕ
own_shown s = s.own.fulls + s.own.partials

-- a look that shows frames is counted
pub shown_counted : (asked : ℕ) (answer : Seen) → IsShown answer → 1 ≤ count_seen answer → 1 ≤ (look_counted asked answer no_counts).fulls + (look_counted asked answer no_counts).partials
shown_counted asked (seen.Frames count) shows some = by (count == asked)
  where
    by : (b : Bool) → 1 ≤ (0 + (if b then 1 else 0)) + (0 + (if not b then 1 else 0))
    by true = omega arith
    by false = omega arith
shown_counted asked seen.Absent shows some = absurd shows
shown_counted asked seen.Empty shows some = absurd (let z : ⊥ = omega (arith, some) in z)
shown_counted asked (seen.Flushed dropped) shows some = absurd shows
shown_counted asked (seen.Shut f r) shows some = absurd shows
