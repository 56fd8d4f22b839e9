use Rattle.std.proofs.Common.{◌≡◌, ◌≤◌}
use Rattle.af_stateq.proofs.Common.{None, replicate, slots, vec_capacity}
use Rattle.af_stateq.proofs.make.no_items.Given as goal

abbrev pub invariant-loop-slot : goal.invariant-loop-slot
invariant-loop-slot g l = (l.items.items ≡ replicate l._slot None) × (slots ≤ vec_capacity l.items)
