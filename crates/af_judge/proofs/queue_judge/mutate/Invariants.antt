-- the counts up to `at` are opened, and those after it are as before
use Rattle.std.proofs.Common.{◌≡◌, ◌↔◌, ◌⊎◌, ℕ, ◌+◌, ◌<◌, take, false, Some, slice_get, slice_index_or}
use Rattle.af_judge.proofs.Common.{IsTrue, one}
use Rattle.af_judge.specs.declared.queue_judge.MutatorStep.{MutatorStep}
use Rattle.af_judge.specs.QueueNumbers.{may_step, mutated, numbers}
use Rattle.af_judge.proofs.queue_judge.mutate.Given as goal

abbrev pub invariant-loop-at : goal.invariant-loop-at
invariant-loop-at l = record {
  point : l.point ≡ mutated l.fn.mutator (take l.at l.steps);
  first : slice_index_or l.counts 0 false ≡ slice_index_or l.fn.counts 0 false;
  opened : (i : ℕ) (step : MutatorStep) → i < l.at → slice_get l.steps i ≡ Some step
      → IsTrue (slice_index_or l.counts (i + 1) false) ↔ (IsTrue (slice_index_or l.fn.counts (i + 1) false) ⊎ (IsTrue (slice_index_or l.counts i false) × may_step (numbers (mutated l.fn.mutator (take i l.steps)) l.observer) (one step)));
  rest : (i : ℕ) → l.at < i → slice_index_or l.counts i false ≡ slice_index_or l.fn.counts i false;
}
