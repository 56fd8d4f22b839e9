-- the counts before `at` are passed, and those from it on are as before
use Rattle.std.proofs.Common.{◌≡◌, ◌↔◌, ℕ, ◌<◌, ◌≤◌, take, false, slice_index_or}
use Rattle.af_judge.proofs.Common.{IsTrue, two}
use Rattle.af_judge.specs.QueueNumbers.{may_step, mutated, numbers}
use Rattle.af_judge.proofs.queue_judge.observe.Given as goal

abbrev pub invariant-loop-at : goal.invariant-loop-at
invariant-loop-at l = record {
  point : l.point ≡ mutated l.fn.mutator (take l.at l.steps);
  passed : (i : ℕ) → i < l.at → IsTrue (slice_index_or l.counts i false) ↔ (IsTrue (slice_index_or l.fn.counts i false) × may_step (numbers (mutated l.fn.mutator (take i l.steps)) l.observer) (two l.step));
  rest : (i : ℕ) → l.at ≤ i → slice_index_or l.counts i false ≡ slice_index_or l.fn.counts i false;
}
