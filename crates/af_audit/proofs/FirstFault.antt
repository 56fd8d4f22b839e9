-- The first fault of a journal, by what is found of its rounds one after the other.
use Rattle.std.proofs.Common.{◌≡◌, Bool, true, false, ℕ, zero, suc, ◌+◌, ◌<◌, ◌≤◌, List, [], ◌∷◌, ◌++◌, append-nil, length, take, drop, Option, Some, None, arith, refl, sym, ap, subst, ◌∙◌}
use Rattle.af_audit.proofs.Common.{Marks, NormalKept, RoundSeen, Run, Session, TrackJudge, after_round, all_ended, fast_party, has_ended, is_none, new_run, no_round, run_from, slice_index_or}
use Rattle.af_audit.specs.declared.run_judge.RunJudge.{RunJudge}
use Rattle.af_audit.specs.RunKept.{FindsFault, FindsUnclear, LeastBelow, party_ended, run_before}
use Rattle.af_audit.proofs.Words.{at_end}
use Rattle.af_audit.specs.Verdicts.{AllBefore, AllClear, AreClear, IsClear, IsFirstFault}
use Rattle.af_audit.proofs.LeastOnes.{all_clear, fault_at_end, fault_here}
use Rattle.af_audit.proofs.PartiesEnded.{all_is, going_least}

-- the run after some more rounds
pub from-more : (s : Session) (run : Run) (first rest : List RoundSeen) → run_from s run (first ++ rest) ≡ run_from s (run_from s run first) rest
from-more s run [] rest = refl
from-more s run (r ∷ first) rest = from-more s (after_round s run r) first rest

take-next : (rounds : List RoundSeen) (n : ℕ) → n < length rounds → take (suc n) rounds ≡ take n rounds ++ slice_index_or rounds n no_round ∷ []
take-next [] n lt = absurd (let z : ⊥ = omega (arith, lt) in z)
take-next (r ∷ rs) zero lt = refl
take-next (r ∷ rs) (suc n) lt = ap (λ (l : List RoundSeen). r ∷ l) (take-next rs n (omega (arith, lt)))

take-more : (rounds : List RoundSeen) (n : ℕ) → n < length rounds → take (n + 1) rounds ≡ take n rounds ++ slice_index_or rounds n no_round ∷ []
take-more rounds n lt = ap (λ (k : ℕ). take k rounds) (let e : n + 1 ≡ suc n = omega arith in e) ∙ take-next rounds n lt

drop-here : (rounds : List RoundSeen) (n : ℕ) → n < length rounds → drop n rounds ≡ slice_index_or rounds n no_round ∷ drop (suc n) rounds
drop-here [] n lt = absurd (let z : ⊥ = omega (arith, lt) in z)
drop-here (r ∷ rs) zero lt = refl
drop-here (r ∷ rs) (suc n) lt = drop-here rs n (omega (arith, lt))

-- the run after one round more
pub run_next : (s : Session) (rounds : List RoundSeen) (n : ℕ) → n < length rounds → run_before s rounds (n + 1) ≡ after_round s (run_before s rounds n) (slice_index_or rounds n no_round)
run_next s rounds n lt = ap (run_from s (new_run s)) (take-more rounds n lt) ∙ from-more s (new_run s) (take n rounds) (slice_index_or rounds n no_round ∷ [])

before-more : (cut : Bool) (s : Session) (marks : Marks) (run : Run) (first : List RoundSeen) (round : RoundSeen) → AllBefore cut s marks run first → AreClear cut s marks (run_from s run first) round → AllBefore cut s marks run (first ++ round ∷ [])
before-more cut s marks run [] round h clear = (clear, tt)
before-more cut s marks run (r ∷ first) round h clear = (h.0, before-more cut s marks (after_round s run r) first round h.1 clear)

-- clear rounds and one more clear round are clear
pub clear_more : (cut : Bool) (s : Session) (marks : Marks) (rounds : List RoundSeen) (n : ℕ) → n < length rounds → AllBefore cut s marks (new_run s) (take n rounds) → LeastBelow (IsClear cut s marks (run_before s rounds n) (slice_index_or rounds n no_round)) (fast_party s + 1) None
    → AllBefore cut s marks (new_run s) (take (n + 1) rounds)
clear_more cut s marks rounds n lt h least =
    let round = slice_index_or rounds n no_round in
    subst (AllBefore cut s marks (new_run s)) (sym (take-more rounds n lt)) (before-more cut s marks (new_run s) (take n rounds) round h (all_clear cut s marks (run_before s rounds n) round least))

-- a first fault behind clear rounds is that of all rounds
fault-behind : (cut : Bool) (s : Session) (marks : Marks) (run : Run) (first rest : List RoundSeen) (number party : ℕ) → AllBefore cut s marks run first → IsFirstFault cut s marks (run_from s run first) rest number party → IsFirstFault cut s marks run (first ++ rest) (length first + number) party
fault-behind cut s marks run [] rest number party h fault = subst (λ (k : ℕ). IsFirstFault cut s marks run rest k party) (let e : number ≡ 0 + number = omega arith in e) fault
fault-behind cut s marks run (r ∷ first) rest number party h fault =
    subst (λ (k : ℕ). IsFirstFault cut s marks run (r ∷ (first ++ rest)) k party) (let e : suc (length first + number) ≡ suc (length first) + number = omega arith in e) (h.0, fault-behind cut s marks (after_round s run r) first rest number party h.1 fault)

clear-behind : (s : Session) (marks : Marks) (run : Run) (first : List RoundSeen) → AllBefore false s marks run first → all_ended s (run_from s run first) ≡ true → AllClear s marks run first
clear-behind s marks run [] h ended = ended
clear-behind s marks run (r ∷ first) h ended = (h.0, clear-behind s marks (after_round s run r) first h.1 ended)

join : (rounds : List RoundSeen) (n : ℕ) → take n rounds ++ drop n rounds ≡ rounds
join rounds zero = refl
join [] (suc n) = refl
join (r ∷ rs) (suc n) = ap (λ (l : List RoundSeen). r ∷ l) (join rs n)

taken : (rounds : List RoundSeen) (n : ℕ) → n ≤ length rounds → length (take n rounds) ≡ n
taken rounds zero le = refl
taken [] (suc n) le = absurd (let z : ⊥ = omega (arith, le) in z)
taken (r ∷ rs) (suc n) le = ap (λ k. suc k) (taken rs n (omega (arith, le)))

-- a party found in the round behind clear ones is the first fault
pub found_here : (cut : Bool) (s : Session) (marks : Marks) (rounds : List RoundSeen) (n party : ℕ) → n < length rounds → AllBefore cut s marks (new_run s) (take n rounds)
    → LeastBelow (IsClear cut s marks (run_before s rounds n) (slice_index_or rounds n no_round)) (fast_party s + 1) (Some party) → IsFirstFault cut s marks (new_run s) rounds n party
found_here cut s marks rounds n party lt h least =
    let run = run_before s rounds n in
    let round = slice_index_or rounds n no_round in
    let rest : IsFirstFault cut s marks run (drop n rounds) 0 party = subst (λ (l : List RoundSeen). IsFirstFault cut s marks run l 0 party) (sym (drop-here rounds n lt)) (fault_here cut s marks run round (drop (suc n) rounds) party least) in
    subst (λ (k : ℕ). IsFirstFault cut s marks (new_run s) rounds k party) (let t = taken rounds n (let x : n ≤ length rounds = omega (arith, lt) in x) in let e : length (take n rounds) + 0 ≡ n = omega (arith, t) in e)
    (subst (λ (l : List RoundSeen). IsFirstFault cut s marks (new_run s) l (length (take n rounds) + 0) party) (join rounds n) (fault-behind cut s marks (new_run s) (take n rounds) (drop n rounds) 0 party h rest))

-- all rounds were taken
pub all_taken : (rounds : List RoundSeen) (n : ℕ) → length rounds ≤ n → take n rounds ≡ rounds
all_taken [] zero le = refl
all_taken [] (suc n) le = refl
all_taken (r ∷ rs) zero le = absurd (omega (arith, le))
all_taken (r ∷ rs) (suc n) le = ap (λ (l : List RoundSeen). r ∷ l) (all_taken rs n (omega (arith, le)))

-- behind all rounds the least party that hasn't ended is at fault, or there is none
pub found_at_end : (s : Session) (marks : Marks) (run : Run) (rounds : List RoundSeen) (found : Option ℕ) → AllBefore false s marks run rounds
    → all_ended s (run_from s run rounds) ≡ is_none found → LeastBelow (λ p. has_ended s (run_from s run rounds) p ≡ true) (fast_party s + 1) found → FindsFault s marks run rounds (at_end (length rounds) found)
found_at_end s marks run rounds None h ended least = clear-behind s marks run rounds h ended
found_at_end s marks run rounds (Some party) h ended least =
    subst (λ (k : ℕ). IsFirstFault false s marks run rounds k party) (let e : length rounds + 0 ≡ length rounds = omega arith in e)
    (subst (λ (l : List RoundSeen). IsFirstFault false s marks run l (length rounds + 0) party) (append-nil rounds) (fault-behind false s marks run rounds [] 0 party h (fault_at_end false s marks (run_from s run rounds) party least)))

-- behind clear rounds the party found by what is kept is at fault, or there is none
pub found_last : (s : Session) (marks : Marks) (rounds : List RoundSeen) (j : RunJudge) (tracks : List TrackJudge) (found : Option ℕ) → FindsUnclear false s marks (new_run s) rounds j tracks None → LeastBelow (λ p. party_ended j tracks p ≡ true) (length tracks + 2) found
    → FindsFault s marks (new_run s) rounds (at_end (length rounds) found)
found_last s marks rounds j tracks found clear least =
    let run = run_from s (new_run s) rounds in
    let kept = clear.1 in
    let ended = ap (λ (m : NormalKept). m.ended) kept.normal.kept in
    found_at_end s marks (new_run s) rounds found clear.0 (all_is s marks j tracks run kept.of_tracks ended kept.fast.ended found least) (going_least s marks j tracks run kept.of_tracks ended kept.fast.ended found least)
