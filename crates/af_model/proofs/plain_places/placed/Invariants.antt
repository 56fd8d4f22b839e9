use Rattle.std.proofs.Common.{◌≡◌, ℕ, ◌<◌, length, false, slice_index_or}
use Rattle.af_model.specs.StateQueue.{slots}
use Rattle.af_model.specs.PlainQueue.{place_at, is_placed}
use Rattle.af_model.proofs.plain_places.placed.Given as goal

abbrev pub invariant-loop-i : goal.invariant-loop-i
invariant-loop-i g l = (length l.out ≡ slots)
    × ((k : ℕ) → k < l.i → slice_index_or l.out k false ≡ is_placed (place_at l.places.items k))
