use Rattle.std.proofs.Common.{◌≡◌, ◌<◌}
use Rattle.af_link.specs.PipeEnds.{out_made}
use Rattle.af_link.specs.Reports.{last_cycle}
use Rattle.af_queue_tests.proofs.link_tests.take_in.Given as goal

abbrev pub invariant-loop-cycle : goal.invariant-loop-cycle
invariant-loop-cycle g l = (out_made l.to ≡ l.links.pipe.now) × (l.writer.cell ≡ l.links.report.now) × (last_cycle l.writer.events < l.cycle)
