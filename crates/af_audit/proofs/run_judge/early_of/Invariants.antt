-- the entries before this one are early
use Rattle.std.proofs.Common.{◌≤◌, drop, take}
use Rattle.af_audit.proofs.Common.{nat_le, prefix_len}
use Rattle.af_audit.proofs.run_judge.early_of.Given as goal

abbrev pub invariant-loop-at : goal.invariant-loop-at
invariant-loop-at l = l.at ≤ prefix_len (λ e. nat_le e.state l.pushed) (take l.entries.count (drop l.entries.first l.log.entries))
