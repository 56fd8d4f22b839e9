use Rattle.std.proofs.Common.{◌≡◌, ℕ, ◌<◌}
use Rattle.af_gain.specs.Sums.{sum_at, no_sum}
use Rattle.af_gain.proofs.mixing.clear.Given as goal

abbrev pub invariant-loop-i : goal.invariant-loop-i
invariant-loop-i l = (at : ℕ) → at < l.i → sum_at l.sums at ≡ no_sum
