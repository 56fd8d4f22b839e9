use Rattle.std.specs.Prelude.{◌↔◌}
use Rattle.std.proofs.Common.{◌+◌, ◌⊎◌, false, take, subst, arith}
use Rattle.af_judge.proofs.Common.{IsTrue, common_steps, get_or_from_slice_get, one, slice_get_within, slice_index_or}
use Rattle.af_judge.specs.declared.queue_judge.MutatorNumbers.{MutatorNumbers}
use Rattle.af_judge.specs.declared.queue_judge.MutatorStep.{MutatorStep}
use Rattle.af_judge.specs.QueueNumbers.{may_step, mutated, numbers}
use Rattle.af_judge.proofs.OpenCounts.{opened_more}
use Rattle.af_judge.proofs.queue_judge.mutate.Goals as goal

pub loop-at-preserved : goal.loop-at-preserved
loop-at-preserved c = record {
  point = grind (arith, common_steps);
  first = grind (arith, common_steps);
  opened = opened_more (λ i step. may_step (numbers (mutated c.args.mutator (take i c.args.steps.now)) c.args.observer) (one step)) c.args.steps.now c.args.counts.now c.loop-at.counts c.loop-at.at c.leads.result
      (omega arith) (omega arith) c.loop-at.invariant.rest c.loop-at.invariant.opened (λ step is.
      (let Q : MutatorNumbers → MutatorStep → Type 0 = λ m x. IsTrue c.leads.result ↔ (IsTrue (slice_index_or c.loop-at.counts (c.loop-at.at + 1) false) ⊎ (IsTrue (slice_index_or c.loop-at.counts c.loop-at.at false) × may_step (numbers m c.args.observer) (one x))) in
      subst (λ m. Q m step) c.loop-at.invariant.point (subst (λ x. Q c.loop-at.point x) (get_or_from_slice_get c.args.steps.now c.loop-at.at step _ is) c.leads.ensures)));
  rest = λ i low. grind (arith, common_steps, c.loop-at.invariant.rest i (omega arith));
}

pub returns : goal.returns
returns c = record {
  first = c.loop-at.invariant.first;
  each = λ i step is. c.loop-at.invariant.opened i step (omega (arith, slice_get_within c.args.steps.now i step is)) is;
}
