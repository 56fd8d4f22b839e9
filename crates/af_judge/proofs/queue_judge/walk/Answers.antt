use Rattle.std.proofs.Common.{◌≡◌, ◌+◌, length, take, subst, sym, refl, arith}
use Rattle.af_judge.proofs.Common.{common_steps, take_more}
use Rattle.af_judge.specs.QueueNumbers.{AreOpenCounts, may_step, mutator_after, observer_after, numbers}
use Rattle.af_judge.proofs.OpenCounts.{open_first, open_step}
use Rattle.af_judge.proofs.queue_judge.walk.Goals as goal

pub loop-step-init : goal.loop-step-init
loop-step-init c =
    let long : length c.mutate.new.counts ≡ length c.args.steps.now + 1 = grind (arith, common_steps) in
    record {
      point = refl;
      counts = open_first may_step mutator_after observer_after (numbers c.args.mutator c.args.observer) c.args.steps.now c.args.counts.now c.mutate.new.counts c.requires long c.mutate.ensures.first c.mutate.ensures.each;
    }

pub loop-step-preserved : goal.loop-step-preserved
loop-step-preserved c =
    let long : length c.mutate-in-loop-step.new.counts ≡ length c.args.steps.now + 1 = grind (arith, common_steps) in
    record {
      point = grind (arith, common_steps);
      counts = subst (λ l. AreOpenCounts c.args.mutator c.args.steps.now c.args.observer l c.mutate-in-loop-step.new.counts) (sym (take_more c.args.looks.now c.loop-step.step-index _ (omega arith)))
          (open_step may_step mutator_after observer_after (numbers c.args.mutator c.args.observer) c.args.steps.now (take c.loop-step.step-index c.args.looks.now) _ c.loop-step.point c.after-point.result c.loop-step.counts c.observe.new.counts c.mutate-in-loop-step.new.counts
          c.loop-step.invariant.point c.after-point.ensures c.loop-step.invariant.counts long c.observe.ensures c.mutate-in-loop-step.ensures.first c.mutate-in-loop-step.ensures.each);
    }
