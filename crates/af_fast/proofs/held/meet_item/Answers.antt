use Rattle.std.proofs.Common.{Some, slice_set, sym, ap, subst, ◌∙◌}
use Rattle.af_fast.proofs.Common.{Made, ServerState}
use Rattle.af_model.specs.History.{HasHistory}
use Rattle.af_fast.proofs.HeldFacts.{has_block, held_of, order_of}
use Rattle.af_fast.proofs.held.meet_item.Goals as goal

pub bounds-streams-track : goal.bounds-streams-track
bounds-streams-track g c =
    has_block c.args.observer.now c.args.streams.now c.args.slot c.args.track c.requires.order c.requires.names c.requires.slot.0 c.requires.track c.in-Some.server.now c.in-Some.ensures.value

pub meet_all-requires : goal.meet_all-requires
meet_all-requires g c =
    let of = held_of c.args.observer.now c.args.streams.now c.args.slot c.args.track c.requires.order c.requires.names c.requires.slot.0 c.requires.track c.in-Some.server.now c.in-Some.ensures.value c.index-streams-track.result c.index-streams-track.is in
    let others = c.requires.block c.in-Some.server.now c.in-Some.ensures.value in
    record { ready = ((others.0.0 ∙ of.0, others.0.1), of, others.1 ∙ of.0) }

pub returns : goal.returns
returns g c =
    let s : ServerState = c.in-Some.server.now in
    let was = c.in-Some.ensures.value in
    let of = held_of c.args.observer.now c.args.streams.now c.args.slot c.args.track c.requires.order c.requires.names c.requires.slot.0 c.requires.track s was c.index-streams-track.result c.index-streams-track.is in
    let e = c.meet_all.ensures in
    record {
      order = order_of c.args.observer.now c.args.streams.now c.args.slot c.args.track c.requires.order c.requires.names c.requires.slot.0 c.requires.track s was c.index-streams-track.result c.index-streams-track.is
          c.meet_all.new.server e.ready.1;
      met = (
        s,
        was,
        record {
          observer = ap (λ (t : ServerState). record c.args.observer.now { items = slice_set c.args.observer.now.items c.args.slot (Some t) }) e.server;
          client = e.client;
          hand = e.hand;
          others = ((e.ready.0.0 ∙ sym of.0, e.ready.0.1), e.ready.2 ∙ sym of.0);
          history = (λ lawful.
              subst (λ (x : Made × ServerState). HasHistory x.0.shape c.meet_all.new.client.pass.part.events c.meet_all.new.client.pass.part.frames x.1.pass.part.events x.1.pass.part.frames c.meet_all.new.hand.part.events)
              (λ i. (sym of.0 i, e.server i)) (e.history lawful));
          unshut = (λ lawful. sym (ap (λ (t : ServerState). t.shut) e.server) ∙ e.unshut lawful);
        },
      );
      steps = e.steps;
    }
