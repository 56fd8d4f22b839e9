use Rattle.std.proofs.Common.{List, [], sym, subst, ◌∙◌, arith}
use Rattle.af_cblk.specs.Sides.{Made}
use Rattle.af_fast_tests.specs.Ready.{AreClientsOf, AreWaiting}
use Rattle.af_fast_tests.proofs.table_tests.plays_in.Goals as goal

pub play_all-told-requires : goal.play_all-told-requires
play_all-told-requires g c =
    let k = c.in_ok-shared.ensures in
    let links = c.links-links.ensures in
    let lines = c.in_ok-streams.ensures in
    let streams = links.streams ∙ c.deref-2.ensures.value in
    record {
      ready = record {
        linked = record {
          names = (k.names.1.0, k.names.1.1, k.names.1.2 ∙ c.deref.ensures.value ∙ sym streams);
          queue_is = k.queue.1 ∙ sym links.queue;
          report_is = k.report.1 ∙ sym links.report;
          pipe_is = k.pipe.1 ∙ sym links.pipe;
        };
        order = record { earlier = []; order = k.order.0 };
        turn = (k.order.1, k.order.2);
        names = (k.names.0.0, k.names.0.1, k.names.0.2 ∙ c.deref.ensures.value ∙ sym streams);
        queue = k.queue.0 ∙ sym links.queue;
        idle = k.mutator.1;
        report = k.report.0 ∙ sym links.report;
      };
      pipe_is = k.pipe.0 ∙ sym links.pipe;
      clients_are = subst (λ (y : List Made). AreClientsOf y c.in_ok-streams.clients.items) (sym streams) lines.clients_are;
      waiting = subst (λ (y : List Made). AreWaiting y c.in_ok-streams.servers.items) (sym streams) lines.waiting;
      few = omega (arith, k.mutator);
    }
