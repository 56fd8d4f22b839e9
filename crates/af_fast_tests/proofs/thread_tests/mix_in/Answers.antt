use Rattle.std.proofs.Common.{[], ◌∙◌}
use Rattle.af_fast_tests.proofs.thread_tests.mix_in.Goals as goal

pub loop-preserved : goal.loop-preserved
loop-preserved g c = record {
  linked = c.cycle-cycle.ensures.linked;
  order = c.cycle-cycle.ensures.order [] c.loop.invariant.order;
  turn = (c.cycle-cycle.ensures.turn, c.cycle-cycle.ensures.sizes.0 ∙ c.loop.invariant.turn.1);
}
