use Rattle.std.proofs.Common.{◌≡◌}
use Rattle.af_link.specs.PipeEnds.{in_made}
use Rattle.af_queue_tests.proofs.link_tests.put_in.Given as goal

abbrev pub invariant-loop : goal.invariant-loop
invariant-loop g l = (in_made l.from ≡ l.links.pipe.now) × (l.reader.cell ≡ l.links.report.now)
