use Rattle.std.proofs.Common.{◌≡◌, ◌≤◌, ℕ, false}
use Rattle.af_stateq.specs.Observes.{InOrder}
use Rattle.af_queue_tests.proofs.queue_tests.first_wrong.Given as goal

abbrev pub invariant-loop-i : goal.invariant-loop-i
invariant-loop-i g l = record {
  mutator : (l.mutator.editing ≡ false) × (l.mutator.past.queue ≡ l.line) × (l.mutator.past.number ≤ l.i);
  observer : (l.observer.past.queue ≡ l.line) × (l.observer.past.number ≤ l.i);
  order : InOrder (λ _ (track item : ℕ). item ≡ track) l.observer;
}
