-- How a judge tells whether a turn of the normal mixer is legal: one look after the other.
use Rattle.std.specs.Prelude.{◌≡◌, ℕ, ◌<◌, ◌≤◌, false, length, map}
use Rattle.af_base.specs.declared.report.Report.{Report}
use Rattle.af_base.specs.Turn.{Turn}
use Rattle.af_life.specs.Edits.{LegalPush, after_ack}
use Rattle.af_life.specs.Kept.{Setup, Learnt, NormalKept, pipe_size, track_in}
use Rattle.af_life.specs.Plays.{tracks_due}
use Rattle.af_life.specs.Serves.{LegalTrack, served_to}
use Rattle.af_life.specs.Turn.{after_edits, ends_now}

-- a turn that went on was to go on, and saw numbers that it may have seen
pub record Begins (c : Setup) (loaded : Report) (m : NormalKept) (e : Turn) : Type 0 where
  pub goes : ends_now m e.ack ≡ false
  pub ack : e.ack ≡ false → 1 ≤ m.pushed
  pub report : e.cycle ≡ loaded.cycle
  pub room : e.room ≤ pipe_size c
  pub whole : length e.tracks ≡ length m.tracks

-- what a turn did by what was learnt: each track is served as it is due, the push answers as it may, and the tracks that are due are mixed
pub record Serves (c : Setup) (k : Learnt) (m : NormalKept) (e : Turn) : Type 0 where
  pub tracks : (i : ℕ) → i < length m.tracks → LegalTrack c k (track_in e i) (served_to c k e.tracks (after_ack e.ack m).tracks i) i
  pub push : LegalPush (after_edits c k e m) e.push
  pub due : map (λ take. take.track) e.mixes ≡ tracks_due c e.room (after_edits c k e m).tracks
