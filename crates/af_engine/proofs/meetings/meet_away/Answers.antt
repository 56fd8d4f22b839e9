use Rattle.std.proofs.Common.{◌≡◌, [], slice_index_or, Some, sym, subst}
use Rattle.af_engine.proofs.Common.{AreOfBlockOf, HandSide, IsInOrder as IsFastInOrder, IsLinked, MixerState, ServerState, at, client_made}
use Rattle.af_engine.proofs.MetAway.{block_at, held_there, none_there, of_block}
use Rattle.af_engine.proofs.MetSlots.{slot_is}
use Rattle.af_engine.proofs.meetings.meet_away.Goals as goal

pub meet_held-requires-clause-slot : goal.meet_held-requires-clause-slot
meet_held-requires-clause-slot g c = (slot_is c.args.fast.now.observer.past.state c.args.track c.in-Some.slot (sym c.in-Some.ensures.slot)).0

pub meet_held-requires-clause-block : goal.meet_held-requires-clause-block
meet_held-requires-clause-block g c =
    subst (λ (y : MixerState × HandSide). (s : ServerState) → at y.0.observer.items c.in-Some.slot ≡ Some s → AreOfBlockOf s c.args.stream.now y.1) (λ i. (sym c.in-Some.ensures.same i, sym c.flag-2.ensures.value i))
    (of_block c.args.links.now c.args.fast.now c.args.track c.in-Some.slot c.args.stream.now c.args.hand.now c.requires.fast c.requires.stream c.requires.hand (sym c.in-Some.ensures.slot))

pub returns-in_default : goal.returns-in_default
returns-in_default g c =
    let fast = subst (λ (y : MixerState). IsFastInOrder y × IsLinked c.args.links.now y) (sym c.in_default.ensures.same) c.requires.fast in
    let there = none_there (slice_index_or c.args.links.now.streams.now c.args.track c.index-links-track.result) c.args.fast.now c.slot_held.new.fast c.args.track c.args.stream.now c.meet_flag.new.client c.args.hand.now c.flag.result.now c.meet_flag.new.hand (sym c.in_default.ensures.slot) c.in_default.ensures.same c.flag.ensures.value c.meet_flag.ensures.client
    (block_at c.args.links.now.streams.now c.args.track (client_made c.args.stream.now.pass) c.index-links-track.result c.requires.stream.0) c.requires.stream.1 c.requires.hand c.meet_flag.ensures.made c.meet_flag.ensures.hand c.meet_flag.ensures.history in
    record { fast = fast; stream = there.stream; hand = there.hand; same = there.same; met = there.met; others = there.others }

pub returns : goal.returns
returns g c =
    let there = held_there c.args.links.now c.args.fast.now c.args.track c.in-Some.slot c.args.stream.now c.args.hand.now c.requires.fast c.requires.stream
    c.requires.hand (sym c.in-Some.ensures.slot)
    c.slot_held.new.fast c.meet_held.new.self c.meet_held.new.client c.flag-2.result.now c.meet_held.new.hand c.in-Some.ensures.same c.flag-2.ensures.value
    c.meet_held.ensures.same (λ s is. (c.meet_held.ensures.met s is).0) in
    let order = c.meet_held.ensures.order in
    record { fast = (order.0 [] (subst IsFastInOrder (sym c.in-Some.ensures.same) c.requires.fast.0), order.1); stream = there.stream; hand = there.hand; same = there.same; met = there.met; others = there.others }
