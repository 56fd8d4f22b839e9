use Rattle.std.proofs.Common.{sym, subst}
use Rattle.af_server.specs.Order.{ServerState}
use Rattle.af_stateq.specs.Observes.{Observes}
use Rattle.af_link.specs.PipeEnds.{OutSide}
use Rattle.af_link.specs.Reports.{WriterSide}
use Rattle.af_link.specs.declared.names.StreamNames.{StreamNames}
use Rattle.af_normal_tests.specs.Testing.{AreOthers}
use Rattle.af_normal_tests.proofs.OthersMet.{others_met}
use Rattle.af_normal_tests.proofs.tests.World.ends_meet.Goals as goal

pub returns : goal.returns
returns g c =
    let o = c.args.self.now.others in
    let links = c.args.links.now in
    record {
      order = c.meet_ends.ensures.order;
      others = subst (λ (x : Observes ServerState StreamNames × WriterSide × OutSide). AreOthers links x.0 x.1 x.2 o.report o.streams.items o.commands.items)
          (λ i. (sym c.meet_queue.ensures.observer i, sym c.meet_ends.ensures.other.0 i, sym c.meet_ends.ensures.other.1 i))
          (others_met links c.args.self.now.mixer c.meet_queue.new.self o.observer o.ends.0 o.ends.1 o.report o.streams.items o.commands.items c.requires.others);
    }
