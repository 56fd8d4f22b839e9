-- What a tally keeps of a run as it goes on.
use Rattle.std.specs.Prelude.{◌≡◌, ℕ, ◌+◌, ◌-◌, ◌*◌, ◌^◌, ◌<◌, ◌≤◌, if◌then◌else◌, true, List, length, All, slice_index_or}
use Rattle.af_base.specs.Log.{slots}
use Rattle.af_base.specs.Mix.{peak_of}
use Rattle.af_script.specs.Bounds.{most_tracks}
use Rattle.af_tally.specs.declared.tally.TrackTally.{TrackTally}
use Rattle.af_tally.specs.Steps.{AreFew}
use Rattle.af_tally.specs.Summaries.{Shown, Look, taken_in, dropped_in, taken_in_all, dropped_of, is_lawful_shown, mixed_cycles}

-- a tally: the numbers of each track, how many cycles were mixed, how many looks may have been noted, the peak, and the steps of each cycle with those of its note
pub record Tallied : Type 0 where
  pub tracks : List TrackTally
  pub cycles : ℕ
  pub looks : ℕ
  pub peak : ℕ
  pub steps : List (ℕ × ℕ)

-- the looks that a tally has room for: more than those of the longest run
abbrev pub most_looks : ℕ
most_looks = 2 ^ 24

-- so many looks took and discarded no more than this
pub record IsWithin (looks : ℕ) (t : TrackTally) : Type 0 where
  pub taken : t.taken ≤ looks * 2 ^ 32
  pub dropped : t.dropped ≤ looks * 2 ^ 32

-- no number of a tally wraps
pub record IsSmall (tracks : List TrackTally) (looks : ℕ) : Type 0 where
  pub few : length tracks ≤ most_tracks
  pub looks_few : looks ≤ most_looks
  pub within : All (IsWithin looks) tracks

-- a track that nothing was noted of
abbrev pub untouched : TrackTally
untouched = record { taken = 0; dropped = 0; lawful = true }

-- the numbers of track i
abbrev pub track_at : List TrackTally → ℕ → TrackTally
track_at tracks i = slice_index_or tracks i untouched

-- the numbers of track i after some looks
abbrev pub after_looks : ℕ → List Look → TrackTally → TrackTally
after_looks i looks t = record { taken = t.taken + taken_in i looks; dropped = t.dropped + dropped_in i looks; lawful = t.lawful }

-- some looks were noted of all tracks
pub record AddsLooks (looks : List Look) (old new : List TrackTally) : Type 0 where
  pub count : length new ≡ length old
  pub each : (i : ℕ) → i < length old → track_at new i ≡ after_looks i looks (track_at old i)

-- some looks were noted, in no more than so many places
pub record Notes (places : ℕ) (noted : List Look) (old new : Tallied) : Type 0 where
  pub tracks : AddsLooks noted old.tracks new.tracks
  pub cycles : new.cycles ≡ old.cycles
  pub looks : new.looks ≤ old.looks + places
  pub peak : new.peak ≡ old.peak
  pub steps : new.steps ≡ old.steps

-- A tally keeps its tracks, and has no more than so many looks and mixed cycles more
pub record Keeps (places mixes : ℕ) (old new : Tallied) : Type 0 where
  pub tracks : length new.tracks ≡ length old.tracks
  pub looks : new.looks ≤ old.looks + places
  pub cycles : new.cycles ≤ old.cycles + mixes

-- what a run shows of track i
abbrev pub shown_of : Shown → ℕ → TrackTally
shown_of run i = record { taken = taken_in_all run i; dropped = dropped_of run i; lawful = is_lawful_shown run i }

-- A tally is that of a run
pub record IsTally (run : Shown) (t : Tallied) : Type 0 where
  pub count : length t.tracks ≡ length run.calls
  pub each : (i : ℕ) → i < length run.calls → track_at t.tracks i ≡ shown_of run i
  pub cycles : t.cycles ≡ mixed_cycles run
  pub looks : t.looks ≤ slots * (length run.entries + length run.turns)
  pub peak : t.peak ≡ peak_of run.written
  pub steps : AreFew run t.steps

-- what counts of a track: nothing if it isn't lawful
abbrev pub mixed_by : TrackTally → ℕ
mixed_by t = if t.lawful then t.taken else 0

abbrev pub discarded_by : TrackTally → ℕ
discarded_by t = if t.lawful then t.dropped else 0

abbrev pub queued_by : TrackTally → ℕ → ℕ
queued_by t released = if t.lawful then released - (t.taken + t.dropped) else 0
