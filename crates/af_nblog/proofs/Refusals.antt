-- If no round has more than half as many notes as there is room for, none is refused.
use Rattle.std.proofs.Common.{◌≡◌, ℕ, ◌+◌, ◌*◌, ◌≤◌, Bool, true, false, All, List, [], ◌∷◌, length, refl, subst, arith}
use Rattle.std.proofs.lemmas.List.Elements.{All-nil, All-head, All-tail, All-cons}
use Rattle.af_nblog.specs.NoteRounds.{count_accepted, RefusesLate, EachRefusesLate}

-- in one round, of which so many were accepted
all_accepted : (room most before here : ℕ) (round : List Bool) → 2 * most ≤ room → before ≤ most → here + length round ≤ most → RefusesLate room (before + here) round → count_accepted round ≡ length round
all_accepted room most before here [] a b c late = refl
all_accepted room most before here (true ∷ round) a b c late =
    let next : before + here + 1 ≡ before + (here + 1) = omega arith in
    let rest = all_accepted room most before (here + 1) round a b (omega arith) (subst (λ (n : ℕ). RefusesLate room n round) next late) in
    omega arith
all_accepted room most before here (false ∷ round) a b c late = absurd (let full : room ≤ before + here = late.0 in omega arith)

pub none_refused : (room most before : ℕ) (rounds : List (List Bool)) → 2 * most ≤ room → before ≤ most → All (λ round. length round ≤ most) rounds → EachRefusesLate room before rounds → All (λ round. count_accepted round ≡ length round) rounds
none_refused room most before [] a b few late = All-nil (λ (round : List Bool). count_accepted round ≡ length round)
none_refused room most before (round ∷ rounds) a b few late =
    let head : length round ≤ most = All-head (λ (r : List Bool). length r ≤ most) round rounds few in
    let short : 0 + length round ≤ most = omega arith in
    let here : count_accepted round ≡ length round = all_accepted room most before 0 round a b short (subst (λ (n : ℕ). RefusesLate room n round) (let e : before ≡ before + 0 = omega arith in e) late.0) in
    All-cons (λ (r : List Bool). count_accepted r ≡ length r) round rounds here (none_refused room most (count_accepted round) rounds a (omega arith) (All-tail (λ (r : List Bool). length r ≤ most) round rounds few) late.1)
