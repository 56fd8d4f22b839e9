-- How large the numbers of a mixer become, so that none leaves its type. A turn settles a START that waited and one command a look, edits the draft once a track, and counts one look a take. Turns are counted by their weight.
use Rattle.std.specs.Prelude.{◌≡◌, ℕ, ◌+◌, ◌*◌, ◌-◌, ◌/◌, ◌<◌, ◌≤◌, max, List, length}
use Rattle.std.specs.List.{fold}
use Rattle.af_base.specs.declared.state.FastState.{FastState}
use Rattle.af_base.specs.Log.{slots}
use Rattle.af_base.specs.Turn.{Turn, TrackSeen}
use Rattle.af_model.specs.StateQueue.{slot_of}
use Rattle.af_life.specs.declared.kept.Counts.{Counts}
use Rattle.af_life.specs.declared.kept.TrackKept.{TrackKept}
use Rattle.af_life.specs.Kept.{Setup, NormalKept, track_at, slot_number}

-- how many tracks there are at most, and how many takes a turn makes at most
abbrev pub most_tracks : ℕ
most_tracks = 32

-- each count is at most so large
abbrev pub AreUpTo : ℕ → Counts → Type 0
AreUpTo n counts = (counts.fulls ≤ n) × (counts.partials ≤ n) × (counts.empties ≤ n)

-- a track that has settled at most so many commands and made so many looks, with a slot that there is
pub record IsSmallTrack (commands looks : ℕ) (s : TrackKept) : Type 0 where
  pub settled : s.settled ≤ commands
  pub own : AreUpTo looks s.own
  pub slot : slot_number s < slots

-- each track has settled at most so many commands and made so many looks
abbrev pub AreSmall : ℕ → ℕ → List TrackKept → Type 0
AreSmall commands looks tracks = (i : ℕ) → IsSmallTrack commands looks (track_at tracks i)

-- a state after so many edits and so many changes to cold idle
pub record IsSmallState (edits idles : ℕ) (x : FastState) : Type 0 where
  pub generations : (k : ℕ) → (slot_of x k).generation ≤ edits
  pub changes : x.tracks_gen ≤ edits
  pub colds : x.cold_gen ≤ idles

-- the tracks and the draft of a mixer, after some edits
pub record IsEdited (commands looks edits idles : ℕ) (m : NormalKept) : Type 0 where
  pub tracks : AreSmall commands looks m.tracks
  pub draft : IsSmallState edits idles m.draft

-- a mixer after turns of so much weight
pub record IsSmall (turns : ℕ) (c : Setup) (m : NormalKept) : Type 0 where
  pub sizes : (c.frames ≤ 1024) × (c.normal ≤ 16) × (length c.settings ≤ most_tracks)
  pub whole : length m.tracks ≡ length c.settings
  pub tracks : AreSmall (65 * turns) (most_tracks * turns) m.tracks
  pub draft : IsSmallState (most_tracks * turns) turns m.draft
  pub pushed : m.pushed ≤ turns

-- the most looks at one track
abbrev pub longest : List TrackSeen → ℕ
longest turns = fold (λ most seen. max most (length seen.looks)) 0 turns

-- what an entry weighs: 1, and one more for each 64 looks that the longest track has beyond its first 64; a turn that the mixer makes weighs 1
unfoldable pub turn_weight : Turn → ℕ
turn_weight e = 1 + (longest e.tracks - 1) / 64
