use Rattle.std.proofs.Common.{◌≡◌, ℕ, ◌<◌, length, map, slice_index_or}
use Rattle.af_model.proofs.Common.{no_part, slot_take, slots, take_of}
use Rattle.af_model.proofs.mixing.parts_of.Given as goal

abbrev pub invariant-loop-slot : goal.invariant-loop-slot
invariant-loop-slot l = record {
  whole : length l.parts ≡ slots;
  each : (k : ℕ) → k < l.slot → slice_index_or (map take_of l.parts) k (take_of no_part) ≡ slot_take l.frames l.entry k;
}
