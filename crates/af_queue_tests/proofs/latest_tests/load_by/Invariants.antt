use Rattle.std.proofs.Common.{◌≡◌}
use Rattle.af_queue_tests.proofs.latest_tests.load_by.Given as goal

abbrev pub invariant-loop : goal.invariant-loop
invariant-loop g l = l.reader.cell ≡ l.cell
