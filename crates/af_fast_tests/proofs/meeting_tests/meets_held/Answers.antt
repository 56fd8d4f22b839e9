use Rattle.std.proofs.Common.{◌≡◌, Some, sym, subst, arith}
use Rattle.af_cblk.specs.Sides.{HandSide}
use Rattle.af_client.specs.Order.{ClientState}
use Rattle.af_server.specs.Order.{ServerState}
use Rattle.af_stateq.specs.Mutates.{at}
use Rattle.af_fast.specs.Meets.{AreOfBlockOf}
use Rattle.af_fast.specs.Mixer.{MixerState}
use Rattle.af_fast_tests.proofs.OneBlock.{held_here}
use Rattle.af_fast_tests.proofs.meeting_tests.meets_held.Goals as goal

pub meet_held-requires-clause-block : goal.meet_held-requires-clause-block
meet_held-requires-clause-block g c = held_here c.args.links.now c.args.block.now c.args.mixer.now c.args.client.now c.args.hand.now c.requires.order.0 c.requires.order.1 c.requires.one c.requires.block 2 (omega arith)

pub meet_held-requires-2-clause-block : goal.meet_held-requires-2-clause-block
meet_held-requires-2-clause-block g c =
    let same = c.meet_held.ensures.none c.if-meet_held.false in
    subst (λ (x : MixerState × ClientState × HandSide). (s : ServerState) → at x.0.observer.items 1 ≡ Some s → AreOfBlockOf s x.1 x.2) (λ i. (sym same.0 i, sym same.1 i, sym same.2 i))
    (held_here c.args.links.now c.args.block.now c.args.mixer.now c.args.client.now c.args.hand.now c.requires.order.0 c.requires.order.1 c.requires.one c.requires.block 1 (omega arith))
