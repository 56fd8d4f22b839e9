use Rattle.std.proofs.Common.{◌≡◌, ℕ, ◌<◌, ◌≤◌, length}
use Rattle.af_model.specs.StateQueue.{slots}
use Rattle.af_model.specs.PlainQueue.{place_at, moved}
use Rattle.af_model.proofs.plain_places.move_all.Given as goal

abbrev pub invariant-loop-i : goal.invariant-loop-i
invariant-loop-i g l = (length l.places.items ≡ slots)
    × ((k : ℕ) → k < l.i → place_at l.places.items k ≡ moved l.step k (place_at l.fn.places.items k))
    × ((k : ℕ) → l.i ≤ k → place_at l.places.items k ≡ place_at l.fn.places.items k)
