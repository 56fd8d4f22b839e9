use Rattle.std.proofs.Common.{◌≡◌}
use Rattle.af_queue_tests.proofs.latest_tests.store_by.Given as goal

abbrev pub invariant-loop-i : goal.invariant-loop-i
invariant-loop-i g l = l.writer.cell ≡ l.cell
