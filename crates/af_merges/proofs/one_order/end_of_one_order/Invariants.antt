use Rattle.af_merges.specs.Stages.{lists_of, InBounds}
use Rattle.af_merges.specs.OneOrder.{LeadsTo}
use Rattle.af_merges.proofs.one_order.end_of_one_order.Given as goal

abbrev pub invariant-loop-event : goal.invariant-loop-event
invariant-loop-event l = record {
  way : LeadsTo (lists_of l.events) l.from l.stage;
  bounds : InBounds (lists_of l.events) l.stage;
}
