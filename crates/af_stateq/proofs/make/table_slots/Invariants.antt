use Rattle.std.proofs.Common.{◌≡◌, ◌≤◌, ◌+◌}
use Rattle.af_stateq.proofs.Common.{None, replicate, slots, vec_capacity}
use Rattle.af_stateq.specs.Shelved.{cells}
use Rattle.af_stateq.proofs.make.table_slots.Given as goal

abbrev pub invariant-loop-slot : goal.invariant-loop-slot
invariant-loop-slot g l = (l.places.items ≡ replicate l._slot record { state = l.state; item = None }) × (cells + slots ≤ vec_capacity l.places)
