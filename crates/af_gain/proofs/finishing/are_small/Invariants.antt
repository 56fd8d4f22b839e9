use Rattle.std.proofs.Common.{◌≡◌, ℕ, ◌<◌, true}
use Rattle.af_gain.specs.Sums.{IsWithin, sum_at}
use Rattle.af_gain.proofs.finishing.are_small.Given as goal

abbrev pub invariant-loop-sum : goal.invariant-loop-sum
invariant-loop-sum l = l.small ≡ true → (at : ℕ) → at < l.sum-index → IsWithin 32 (sum_at l.sums at)
