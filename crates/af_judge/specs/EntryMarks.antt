-- Which marks, scales and absent slots an entry of the fast mixer has by its state.
use Rattle.std.specs.Prelude.{◌≡◌, ℕ, ◌<◌, false, slice_index_or}
use Rattle.af_base.specs.declared.log.CycleEntry.{CycleEntry}
use Rattle.af_base.specs.declared.state.FastState.{FastState}
use Rattle.af_base.specs.Log.{slots, absent, entry_slot}
use Rattle.af_model.specs.Cycles.{mix_scale, mono_marks}
use Rattle.af_model.specs.StateQueue.{carries}

-- each slot of an entry has the scale of the mix of a state
abbrev pub HasScales : FastState → CycleEntry → Type 0
HasScales x entry = (i : ℕ) → i < slots → slice_index_or entry.scales i 0 ≡ mix_scale x i

-- each slot that isn't of the mask is absent
abbrev pub HasNoOthers : FastState → CycleEntry → Type 0
HasNoOthers x entry = (i : ℕ) → 0 < i → i < slots → carries x i ≡ false → entry_slot entry i ≡ absent

-- the entry has the marks and scales of a state, and no slot that isn't of its mask
pub record IsMarkedBy (x : FastState) (entry : CycleEntry) : Type 0 where
  pub mono : entry.mono ≡ mono_marks x slots
  pub scales : HasScales x entry
  pub others : HasNoOthers x entry
