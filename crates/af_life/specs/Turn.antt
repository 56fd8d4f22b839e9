-- A turn of the normal mixer: what it leaves, and which one is legal.
use Rattle.std.specs.Prelude.{◌≡◌, ℕ, ◌<◌, ◌≤◌, ◌&&◌, ◌||◌, Bool, true, false, if◌then◌else◌, length, map}
use Rattle.std.specs.List.{AllByRecursion}
use Rattle.af_base.specs.Turn.{Turn, ended_turn}
use Rattle.af_life.specs.Kept.{Setup, pipe_size, NormalKept, Outside, Learnt, track_in}
use Rattle.af_life.specs.Heard.{learnt}
use Rattle.af_life.specs.Looks.{LegalLooks}
use Rattle.af_life.specs.Serves.{served_to, LegalTrack}
use Rattle.af_life.specs.Edits.{after_ack, commands_exit, mutated, after_push, LegalPush}
use Rattle.af_life.specs.Plays.{tracks_due, after_takes, LegalTake}

-- ## What a turn leaves, step by step. It never asks whether the turn was legal

-- the mixer once its tracks were served
abbrev pub after_tracks : Setup → Learnt → Turn → NormalKept → NormalKept
after_tracks c k e m = record m { tracks = served_to c k e.tracks m.tracks (length m.tracks) }

-- the mixer once its draft was edited
abbrev pub after_edits : Setup → Learnt → Turn → NormalKept → NormalKept
after_edits c k e m = mutated c k e.room (after_tracks c k e (after_ack e.ack m))

-- what a turn leaves of the mixer
unfoldable pub turn_after : Setup → Learnt → NormalKept → Turn → NormalKept
turn_after c k m e =
    if e.ended then record m { ended = true }
    else after_takes c e.mixes (after_push e.push (after_edits c k e m))

-- ## Which turn is legal

-- the mixer had ended, or sees an Exit acknowledged
abbrev pub ends_now : NormalKept → Bool → Bool
ends_now m ack = m.ended || (commands_exit m.last && ack)

-- A turn that went on: an ack that isn't seen is that of a push; each track is served by what those before it left, and each look answers by its server's list; the push answers for the draft that the edits leave; and the tracks that are due are mixed
pub record GoesOn (c : Setup) (o : Outside) (m : NormalKept) (e : Turn) : Type 0 where
  pub ack : e.ack ≡ false → 0 < m.pushed
  pub report : e.cycle ≡ o.report.cycle
  pub room : e.room ≤ pipe_size c
  pub whole : length e.tracks ≡ length m.tracks
  pub tracks : (i : ℕ) → i < length m.tracks → LegalTrack c (learnt o) (track_in e i) (served_to c (learnt o) e.tracks (after_ack e.ack m).tracks i) i
  pub looks : (i : ℕ) → i < length m.tracks → LegalLooks (o.commands i) (track_in e i).looks (o.command_fronts i)
  pub push : LegalPush (after_edits c (learnt o) e m) e.push
  pub due : map (λ take. take.track) e.mixes ≡ tracks_due c e.room (after_edits c (learnt o) e m).tracks
  pub takes : AllByRecursion (LegalTake c o) e.mixes

-- a turn that follows from the mixer before it and from what it saw
pub record LegalTurn (c : Setup) (o : Outside) (m : NormalKept) (e : Turn) : Type 0 where
  pub ends : e.ended ≡ ends_now m e.ack
  pub still : e.ended ≡ true → e ≡ ended_turn
  pub goes_on : e.ended ≡ false → GoesOn c o m e
