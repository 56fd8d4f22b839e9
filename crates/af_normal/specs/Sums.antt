-- What the takes of a turn are before they are mixed.
use Rattle.std.specs.Prelude.{ℕ, ◌<◌, ◌≤◌, length}
use Rattle.af_base.specs.declared.turn.NormalTake.{NormalTake}

-- a take of one of so many tracks, no longer than the buffer
pub record Fits (asked tracks : ℕ) (t : NormalTake) : Type 0 where
  pub track : t.track < tracks
  pub short : length t.frames.items ≤ asked
