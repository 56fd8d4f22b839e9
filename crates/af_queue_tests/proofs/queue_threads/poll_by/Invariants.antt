use Rattle.std.proofs.Common.{◌≡◌, ◌≤◌, ℕ}
use Rattle.af_stateq.specs.Observes.{InOrder}
use Rattle.af_queue_tests.proofs.queue_threads.poll_by.Given as goal

abbrev pub invariant-loop-i : goal.invariant-loop-i
invariant-loop-i g l = (l.observer.past.queue ≡ l.line) × InOrder (λ _ (track item : ℕ). item ≡ track) l.observer × (l.observer.past.number ≤ l._i)
