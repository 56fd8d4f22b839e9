use Rattle.std.proofs.Common.{◌≡◌, ℕ, ◌<◌, ◌≤◌, length, None, if◌then◌else◌, is_some}
use Rattle.af_stateq.proofs.Common.{slots}
use Rattle.af_stateq.specs.Mutates.{at}
use Rattle.af_stateq.proofs.mutator.join.Given as goal

abbrev pub invariant-loop-i : goal.invariant-loop-i
invariant-loop-i g l =
    (length l.returned.items ≡ slots) × (length l.came.items ≡ slots)
    × ((k : ℕ) → k < l.i → (at l.came.items k ≡ None) × (at l.returned.items k ≡ (if is_some (at l.fn.came.items k) then at l.fn.came.items k else at l.fn.returned.items k)))
    × ((k : ℕ) → l.i ≤ k → (at l.came.items k ≡ at l.fn.came.items k) × (at l.returned.items k ≡ at l.fn.returned.items k))
