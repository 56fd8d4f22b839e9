-- What holds of the slots and the draft of a mixer between two turns, whatever it saw.
use Rattle.std.specs.Prelude.{◌≡◌, ℕ, ◌<◌, ◌≤◌, true, false, is_some, List, [], ◌∷◌}
use Rattle.af_base.specs.declared.state.FastState.{FastState}
use Rattle.af_base.specs.Log.{slots}
use Rattle.af_model.specs.StateQueue.{slot_of, carries, IsState}
use Rattle.af_life.specs.declared.state.LifeState.TheVariants.{Absent}
use Rattle.af_life.specs.declared.kept.TrackKept.{TrackKept}
use Rattle.af_life.specs.State.{is_among}
use Rattle.af_life.specs.Kept.{track_at, is_home, is_lent, is_returning, slot_number}
use Rattle.af_life.specs.Obeys.{holds}

-- A track has a slot for tracks, or none: none before its OPEN. Without one its proxy is home
pub record IsSlotted (s : TrackKept) : Type 0 where
  pub slot : is_some s.slot ≡ true → (1 ≤ slot_number s) × (slot_number s < slots)
  pub unopened : is_among (Absent ∷ []) s.life.state ≡ true → is_some s.slot ≡ false
  pub homely : is_some s.slot ≡ false → is_home s.holder ≡ true

-- The draft carries the slot of the track i if that is lent, and not if it is returning. The slot has the track and the generation of either
pub record IsDrafted (draft : FastState) (i : ℕ) (s : TrackKept) : Type 0 where
  pub lent : is_lent s.holder ≡ true → carries draft (slot_number s) ≡ true
  pub returning : is_returning s.holder ≡ true → carries draft (slot_number s) ≡ false
  pub own : is_home s.holder ≡ false → ((slot_of draft (slot_number s)).track ≡ i) × ((slot_of draft (slot_number s)).generation ≡ s.generation)

-- no two tracks have one slot
abbrev pub AreAlone : List TrackKept → Type 0
AreAlone tracks = (i j slot : ℕ) → holds slot (track_at tracks i) ≡ true → holds slot (track_at tracks j) ≡ true → i ≡ j

-- Each track with a slot has it alone, and the draft carries it if the track is lent
pub record IsSound (tracks : List TrackKept) (draft : FastState) : Type 0 where
  pub slotted : (i : ℕ) → IsSlotted (track_at tracks i)
  pub drafted : (i : ℕ) → IsDrafted draft i (track_at tracks i)
  pub alone : AreAlone tracks
  pub state : IsState draft
