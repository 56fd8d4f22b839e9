use Rattle.std.proofs.Common.{[], refl}
use Rattle.af_merges.specs.Stages.{lists_of}
use Rattle.af_merges.proofs.OneOrder.{leads_more}
use Rattle.af_merges.proofs.one_order.end_of_one_order.Goals as goal

pub loop-event-init : goal.loop-event-init
loop-event-init c = record { way = ([], refl); bounds = c.requires.bounds }

pub loop-event-preserved : goal.loop-event-preserved
loop-event-preserved c = record {
  way = leads_more (lists_of c.args.events.now) c.args.from.now c.loop-event.stage c.in-Some.next c.loop-event.invariant.way c.in-Some.ensures.next;
  bounds = c.in-Some.ensures.bounds;
}
