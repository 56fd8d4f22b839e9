-- What mixing all tracks that have no slot needs, and keeps.
use Rattle.std.specs.Prelude.{◌≡◌, ℕ, ◌+◌, ◌<◌, ◌≤◌, true, List, length, is_some, slice_index_or, MatchOption, All, Option}
use Rattle.af_base.specs.declared.turn.NormalTake.{NormalTake}
use Rattle.af_base.specs.Roomy.{Roomy}
use Rattle.af_cblk.specs.Sides.{Made}
use Rattle.af_server.specs.Order.{ServerState, IsServerOf}
use Rattle.af_life.specs.declared.kept.TrackKept.{TrackKept}
use Rattle.af_life.specs.Kept.{track_at}
use Rattle.af_life.specs.Plays.{is_mixed_here}
use Rattle.af_normal.specs.Mixing.{stream_at}

-- a track that is mixed here has its stream proxy at home
abbrev pub AreHome : List TrackKept → List (Option ServerState) → Type 0
AreHome tracks streams = (i : ℕ) → i < length tracks → is_mixed_here (track_at tracks i) ≡ true → is_some (stream_at streams i) ≡ true

-- each stream proxy that is home is of its track's block, and in order
abbrev pub AreServersOf : List Made → List (Option ServerState) → Type 0
AreServersOf blocks streams = (i : ℕ) (block : Made) → i < length streams → MatchOption (stream_at streams i) (Unit {0}) (IsServerOf (slice_index_or blocks i block))

-- a take has room for the frames of a buffer
abbrev pub HasFrames : ℕ → NormalTake → Type 0
HasFrames asked t = asked ≤ t.frames.room

-- There is a take for each track, in the entry or spare, each with room for a buffer, and either list has room for all
pub record HasTakes (asked tracks : ℕ) (mixes spare : Roomy NormalTake) : Type 0 where
  pub together : length mixes.items + length spare.items ≡ tracks
  pub mixes_room : tracks ≤ mixes.room
  pub spare_room : tracks ≤ spare.room
  pub mixed : All (HasFrames asked) mixes.items
  pub left : All (HasFrames asked) spare.items
