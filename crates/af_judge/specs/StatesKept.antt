-- What holds of the states that a normal mixer pushes, whatever it saw: a slot that a state carries is that of its track, whose proxy is away.
use Rattle.std.specs.Prelude.{◌≡◌, ℕ, ◌<◌, true, false, List, length, Some}
use Rattle.af_base.specs.declared.state.FastState.{FastState}
use Rattle.af_base.specs.Log.{slots}
use Rattle.af_life.specs.declared.kept.Holder.{Holder}
use Rattle.af_life.specs.declared.kept.TrackKept.{TrackKept}
use Rattle.af_life.specs.Kept.{NormalKept, is_home, is_lent, track_at}
use Rattle.af_life.specs.Sound.{IsSound}
use Rattle.af_model.specs.StateQueue.{carries, slot_of}
use Rattle.af_runs.specs.Sessions.{Session, cycle_frames, track_count}
use Rattle.af_runs.specs.Told.{state_at}
use Rattle.af_judge.specs.Entries.{CarriesApart, CarriesWithin}
use Rattle.af_judge.specs.QueueTold.{Follow}

-- the proxy is away, or lent
abbrev pub IsAway : Holder → Type 0
IsAway holder = is_home holder ≡ false

abbrev pub IsLent : Holder → Type 0
IsLent holder = is_lent holder ≡ true

-- each slot that the state carries is that of its track, whose proxy's holder is of this kind
abbrev pub CarriesBy : (Holder → Type 0) → List TrackKept → FastState → Type 0
CarriesBy Is tracks x = (k : ℕ) → k < slots → carries x k ≡ true → ((track_at tracks (slot_of x k).track).slot ≡ Some k) × Is (track_at tracks (slot_of x k).track).holder

-- a slot that both states carry is the same in both
abbrev pub SameSlots : FastState → FastState → Type 0
SameSlots x y = (k : ℕ) → k < slots → carries x k ≡ true → carries y k ≡ true → slot_of x k ≡ slot_of y k

-- what the draft carries is lent, and what the state pushed last carries is away
pub record Carried (m : NormalKept) : Type 0 where
  pub sound : IsSound m.tracks m.draft
  pub draft : CarriesBy IsLent m.tracks m.draft
  pub last : CarriesBy IsAway m.tracks m.last
  pub same : SameSlots m.draft m.last

-- A mixer that has pushed these states: the last is the last of them, each carries each track of the session in one slot at most, and each follows the one before
pub record StatesKept (s : Session) (m : NormalKept) (states : List FastState) : Type 0 where
  pub many : length m.tracks ≡ track_count s
  pub carried : Carried m
  pub pushed : m.pushed ≡ length states
  pub last : state_at (cycle_frames s) states (length states) ≡ m.last
  pub apart : (k : ℕ) → CarriesApart (state_at (cycle_frames s) states k)
  pub within : (k : ℕ) → CarriesWithin (track_count s) (state_at (cycle_frames s) states k)
  pub follow : Follow (state_at (cycle_frames s) states)
