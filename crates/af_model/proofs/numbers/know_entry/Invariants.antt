use Rattle.af_model.proofs.Common.{entry_slot, slice_index_or, ℕ}
use Rattle.std.specs.Prelude.{◌<◌, ◌^◌}
use Rattle.af_model.specs.Numbers.{FitsSlot}
use Rattle.af_model.proofs.numbers.know_entry.Given as goal

abbrev pub invariant-loop-i : goal.invariant-loop-i
invariant-loop-i l = (k : ℕ) → k < l.i → FitsSlot (entry_slot l.entry k) × (slice_index_or l.entry.scales k 0 < 2 ^ 16)
