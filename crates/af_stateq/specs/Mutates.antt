-- What contracts see of the mutator, and what always holds of it.
use Rattle.std.specs.Prelude.{◌≡◌, ℕ, ◌<◌, ◌&&◌, ◌⊎◌, not, if◌then◌else◌, Bool, true, false, List, [], length, Option, Some, None, is_some, slice_index_or, replicate}
use Rattle.af_base.specs.declared.state.FastState.{FastState}
use Rattle.af_base.specs.declared.state.FastTrack.{FastTrack}
use Rattle.af_model.specs.StateQueue.{slots, slot_of, carries, IsState, FitAt}
use Rattle.af_stateq.specs.Shelved.{nothing}
use Rattle.af_stateq.specs.Ends.{Pushes}

-- the mutator: what it pushed and saw, the draft, whether it differs from the last push, whether a mutation is in progress and made an edit,
-- the items attached since the last push, the detached items in hand, and which slots have an item that was attached and not taken back
pub record Mutates (P K : Type 0) : Type 0 where
  pub past : Pushes P K
  pub draft : FastState
  pub dirty : Bool
  pub editing : Bool
  pub edited : Bool
  pub pending : List (Option P)
  pub returned : List (Option P)
  pub out : List Bool

abbrev pub at : {P : Type 0} → List (Option P) → ℕ → Option P
at items i = slice_index_or items i None

abbrev pub is_out : List Bool → ℕ → Bool
is_out out i = slice_index_or out i false

-- one slot, by what the draft, the last state and the one before it carry and by its tracks there, its pending and its returned item, whether its item is out, and whether the last state was seen acknowledged
pub record InSlot {P : Type 0} (clear in_draft in_last in_before : Bool) (track last before : FastTrack) (pending returned : Option P) (out : Bool) : Type 0 where
  -- an item is pending exactly if the draft carries one that the last state doesn't
  pub pends : is_some pending ≡ (in_draft && not in_last)
  -- no slot changes its track while the last state carries it
  pub stays : in_last ≡ true → track ≡ last
  -- an item that the last push took off the states is on its way back
  pub comes : clear ≡ false → in_before ≡ true → in_last ≡ false → (in_draft ≡ false) × (is_some returned ≡ false) × (track ≡ before)
  -- an item in hand is on no state
  pub rests : is_some returned ≡ true → (in_draft ≡ false) × (in_last ≡ false)
  -- if no item is out, none is anywhere
  pub clean : out ≡ false → (in_draft ≡ false) × (is_some returned ≡ false) × (in_last ≡ false) × (clear ≡ false → in_before ≡ false)
  -- an item that is out is on a state, on its way back, or in hand
  pub found : out ≡ true → in_draft ≡ false → in_last ≡ false → (clear ≡ true) ⊎ (in_before ≡ false) → is_some returned ≡ true

abbrev pub SlotIn : {P : Type 0} → Bool → FastState → FastState → FastState → List (Option P) → List (Option P) → List Bool → ℕ → Type 0
SlotIn clear draft last before pending returned out i =
    InSlot clear (carries draft i) (carries last i) (carries before i) (slot_of draft i) (slot_of last i) (slot_of before i) (at pending i) (at returned i) (is_out out i)

-- every slot is in one of these ways, every item fits its track in the draft, and the draft is a state
pub record InDraft {P K : Type 0} (fits : K → ℕ → P → Type 0) (m : Mutates P K) : Type 0 where
  pub state : IsState m.draft
  pub lengths : (length m.pending ≡ slots) × (length m.returned ≡ slots) × (length m.out ≡ slots)
  pub each : (i : ℕ) → i < slots → SlotIn m.past.clear m.draft m.past.last m.past.before m.pending m.returned m.out i
  pub fit_pending : FitAt fits m.past.key m.draft m.pending
  pub fit_returned : FitAt fits m.past.key m.draft m.returned
  pub begins : m.past.number ≡ 0 → m.past.clear ≡ true

-- items came into hand: each stands at its slot, and the others stay
abbrev pub IsJoined : {P : Type 0} → List (Option P) → List (Option P) → List (Option P) → Type 0
IsJoined items before after = (i : ℕ) → i < slots → at after i ≡ (if is_some (at items i) then at items i else at before i)

-- a new mutator: nothing was pushed or seen, the draft is the first state, and no slot has an item
pub record IsNewMutator {P K : Type 0} (key : K) (first : FastState) (m : Mutates P K) : Type 0 where
  pub has_key : m.past.key ≡ Some key
  pub begins : (m.past.first ≡ first) × (m.past.last ≡ first) × (m.draft ≡ first)
  pub silent : (m.past.number ≡ 0) × (m.past.clear ≡ true) × (m.past.events ≡ [])
  pub idle : (m.dirty ≡ false) × (m.editing ≡ false) × (m.edited ≡ false)
  pub empty : (m.pending ≡ nothing) × (m.returned ≡ nothing) × (m.out ≡ replicate slots false)
