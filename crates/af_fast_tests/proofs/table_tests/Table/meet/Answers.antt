use Rattle.std.proofs.Common.{ℕ, ◌≤◌, ap, sym, subst, ◌∙◌}
use Rattle.af_fast.specs.Fits.{NamesBlocks}
use Rattle.af_link.specs.PipeEnds.{in_made}
use Rattle.af_fast_tests.proofs.table_tests.Table.meet.Goals as goal

pub returns : goal.returns
returns g c =
    let r = c.requires.ready in
    let m = c.meet.ensures in
    record {
      ready = record {
        linked = m.order.1;
        order = record { earlier = r.order.earlier; order = m.order.0 r.order.earlier r.order.order };
        turn = (ap (λ f. f.adopted) m.mixer ∙ r.turn.0, ap (λ f. f.frames) m.mixer ∙ r.turn.1);
        names = subst (λ k. NamesBlocks k c.args.links.now.streams.now) (sym (ap (λ x. x.past.key) m.others.0)) r.names;
        queue = ap (λ x. x.past.queue) m.others.0 ∙ r.queue;
        idle = ap (λ x. x.editing) m.others.0 ∙ r.idle;
        report = ap (λ x. x.cell) m.others.1 ∙ r.report;
      };
      pipe_is = ap in_made m.others.2 ∙ c.requires.pipe_is;
      clients_are = c.requires.clients_are;
      waiting = c.requires.waiting;
      few = subst (λ (n : ℕ). n ≤ c.args.self.now.pushes) (sym (ap (λ x. x.past.number) m.others.0)) c.requires.few;
    }
