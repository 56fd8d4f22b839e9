use Rattle.af_fast_tests.specs.Ready.{AreLines}
use Rattle.af_fast_tests.proofs.table_tests.add_lines.Given as goal

abbrev pub invariant-loop-size : goal.invariant-loop-size
invariant-loop-size l = AreLines l.streams.items l.clients.items l.servers.items
