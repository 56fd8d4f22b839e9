use Rattle.std.proofs.Common.{◌≡◌, ◌≤◌, replicate}
use Rattle.af_model.specs.StateQueue.{slots}
use Rattle.af_model.specs.declared.plain_calls.Place.TheVariants.{Nowhere}
use Rattle.af_model.proofs.plain_queue.PlainQueue.new.Given as goal

abbrev pub invariant-loop-slot : goal.invariant-loop-slot
invariant-loop-slot g l = (l.places.items ≡ replicate l._slot Nowhere) × (l._slot ≤ slots)
