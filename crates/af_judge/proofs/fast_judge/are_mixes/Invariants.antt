use Rattle.std.proofs.Common.{◌≡◌, ℕ, ◌+◌, ◌<◌, true}
use Rattle.af_judge.proofs.Common.{entry_at, is_mixed}
use Rattle.af_judge.proofs.fast_judge.are_mixes.Given as goal

abbrev pub invariant-loop-at : goal.invariant-loop-at
invariant-loop-at l = (i : ℕ) → i < l.at → is_mixed (entry_at l.log.entries (l.first + i)).cycle ≡ true
