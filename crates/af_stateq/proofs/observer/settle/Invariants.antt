use Rattle.std.proofs.Common.{◌≡◌, ℕ, ◌<◌, ◌≤◌, length}
use Rattle.af_stateq.proofs.Common.{slots}
use Rattle.af_stateq.specs.Mutates.{at}
use Rattle.af_stateq.specs.Observes.{IsSettled}
use Rattle.af_stateq.proofs.observer.settle.Given as goal

abbrev pub invariant-loop-i : goal.invariant-loop-i
invariant-loop-i g l =
    (length l.items.items ≡ slots) × (length l.moving.items ≡ slots)
    × ((k : ℕ) → k < l.i → IsSettled l.state l.fn.items.items l.fn.moving.items l.items.items l.moving.items k)
    × ((k : ℕ) → l.i ≤ k → (at l.items.items k ≡ at l.fn.items.items k) × (at l.moving.items k ≡ at l.fn.moving.items k))
