use Rattle.af_normal_tests.specs.Testing.{AreLines}
use Rattle.af_normal_tests.proofs.table_tests.make_lines.Given as goal

abbrev pub invariant-loop-kind : goal.invariant-loop-kind
invariant-loop-kind l = AreLines l.kind-index l.lines.streams.items l.lines.commands.items l.lines.clients.items l.lines.senders.items l.lines.tracks
