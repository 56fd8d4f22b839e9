use Rattle.std.proofs.Common.{ℕ, ◌<◌, ◌≤◌, ◌^◌, ◌%◌, arith, ap}
use Rattle.std.proofs.Math.Nat.{div-eq_of_lt, pow-le-pow_right}
use Rattle.std.proofs.lemmas.Nat.{leading_length}
use Rattle.af_judge.proofs.entry_judge.bits_in.Goals as goal

pub returns-clause-rest : goal.returns-clause-rest
returns-clause-rest c = λ i le.
    let found = leading_length 32 c.args.mask (omega (arith, c.ranges.mask)) in
    let m : ℕ = found.0 in
    let more : 2 ^ m ≤ 2 ^ i = pow-le-pow_right (omega arith) (omega (arith, le, found.1)) in
    let below : c.args.mask < 2 ^ i = omega (arith, more, found.2) in
    ap (λ (n : ℕ). n % 2) (div-eq_of_lt below)
