-- The ends of the other mixer after a meeting.
use Rattle.std.proofs.Common.{List, length, refl, ap, ◌∙◌}
use Rattle.af_base.specs.declared.report.Report.{Report}
use Rattle.af_client.specs.Order.{ClientState}
use Rattle.af_fast.proofs.Basics.{last_of-learn}
use Rattle.af_model.specs.Reports.{no_report}
use Rattle.af_server.specs.Order.{ServerState}
use Rattle.af_stateq.specs.Observes.{Observes}
use Rattle.af_stateq.proofs.Told.{order_learns}
use Rattle.af_link.specs.PipeEnds.{OutSide}
use Rattle.af_link.specs.Reports.{WriterSide}
use Rattle.af_link.specs.declared.links.Links.{Links}
use Rattle.af_link.specs.declared.names.StreamNames.{StreamNames}
use Rattle.af_normal.specs.Meeting.{observer_met, out_met, writer_met}
use Rattle.af_normal.specs.State.{NormalState}
use Rattle.af_normal_tests.specs.Testing.{AreOthers}
use Rattle.af_normal.specs.Turning.{stream_fits}

pub others_met : (links : Links) (m n : NormalState) (o : Observes ServerState StreamNames) (w : WriterSide) (p : OutSide) (last : Report) (streams commands : List ClientState)
    → AreOthers links o w p last streams commands → AreOthers links (observer_met m o) (writer_met n w) (out_met n p) last streams commands
others_met links m n o w p last streams commands a = record {
  queue_is = a.queue_is;
  names = a.names;
  polls = order_learns stream_fits o (observer_met m o) (length m.mutator.past.events) a.polls refl;
  report_is = a.report_is;
  cycle_is = ap (λ (x : Report). x.cycle) (last_of-learn no_report w.events (length n.reader.events)) ∙ a.cycle_is;
  pipe_is = a.pipe_is;
  streams_are = a.streams_are;
  commands_are = a.commands_are;
}
