-- What a stage is once all parties were played on it, and between two rounds.
use Rattle.std.specs.Prelude.{◌≡◌, ◌-◌, ◌<◌, ◌≤◌, ℕ, zero, suc, List, [], ◌∷◌, ◌++◌, length, Option, Some, None, Result, true, false}
use Rattle.af_base.specs.declared.frame.Frame.{Frame}
use Rattle.af_base.specs.declared.state.FastState.{FastState}
use Rattle.af_base.specs.declared.want.Memory.{Memory}
use Rattle.af_engine.specs.Shares.{SharedState}
use Rattle.af_io.specs.Files.{Files, SetsFile}
use Rattle.af_model.specs.Journals.{RoundNoted, RoundsNoted}
use Rattle.af_script.specs.Data.{ScriptData}
use Rattle.af_rendering.specs.declared.staging.Stage.{Stage}
use Rattle.af_playing.specs.PlayedRuns.{LeavesRun, Plays, RunsOfAll, all_ended, is_full}
use Rattle.af_playing.specs.declared.noted.Noted.{Noted}
use Rattle.af_playing.specs.declared.piece.Piece.{Piece}
use Rattle.af_rendering.specs.Rounds.{RoundPlayed}
use Rattle.af_rendering.specs.SoFar.{AreNoted}
use Rattle.af_rendering.specs.Stages.{IsNoted}
use Rattle.af_session.specs.NewSession.{IsNewSession}
use Rattle.af_session.specs.Rooms.{HasPlacesAt, IsReadyOn, KeepsSizes, given_of}
use Rattle.af_session.specs.Shown.{shown_at}
use Rattle.af_session.specs.Together.{SessionState}
use Rattle.af_session.specs.declared.rig.Rig.{Rig}
use Rattle.af_session.specs.declared.room.Room.{Room}
use Rattle.af_side_by_side.specs.Logging.{LogsPlay}
use Rattle.af_tally.specs.Sound.{pcm_of}
use Rattle.af_tally.specs.Tallies.{IsTally, Tallied}

-- all parties were played on a stage to their end, or to the end of the log, in these rounds
pub record HasPlayed (script : ScriptData) (files : List (List Frame)) (rounds : RoundsNoted) (s : Stage) : Type 0 where
  pub all : Plays script files rounds.rounds s.parties
  pub over : all_ended s.parties ≡ false → is_full s.parties ≡ true
  pub few : length rounds.rounds ≤ script.cycles
  pub noted : IsNoted script rounds s
  pub frames : s.parties.fast.frames ≡ script.frames
  pub entries : length s.parties.fast.log.entries ≤ s.parties.fast.cycles

-- a round more was noted
abbrev pub NotesRound : RoundNoted → RoundsNoted → RoundsNoted → Type 0
NotesRound r noted noted' = noted' ≡ record noted { rounds = noted.rounds ++ r ∷ [] }

-- ## Between two rounds

-- for how many notes a log is kept, if one is
abbrev pub kept_in : ℕ → Option ℕ
kept_in zero = None
kept_in (suc n) = Some (suc n)

-- nothing is noted yet of so many tracks
abbrev pub NotesNone : ℕ → Noted → Type 0
NotesNone tracks noted = noted.rounds ≡ record { tracks = tracks; rounds = [] }

-- The rounds noted were played by the parties since they were made of the script, and they are ready for another; the tally is that of the rounds, and the log, if one is kept, has their notes
pub record HasPlayedRounds (script : ScriptData) (kept : Option ℕ) (rig : Rig) (noted : Noted) (t : SessionState) (tally : Tallied) : Type 0 where
  pub here : rig.tracks.now ≡ script.tracks
  pub shared : SharedState
  pub start : SessionState
  pub new : IsNewSession script shared start
  pub run : RunsOfAll (given_of rig) start noted.rounds.rounds t
  pub few : length noted.rounds.rounds ≤ script.cycles
  pub ready : IsReadyOn rig (length noted.rounds.rounds) t
  pub tally_is : (state : FastState) → IsTally (shown_at state (length rig.tracks.now) noted.rounds.rounds t.fast) tally
  pub places : HasPlacesAt (length noted.rounds.rounds) t tally
  pub form : AreNoted (length rig.tracks.now) noted.rounds t.fast.log
  pub sizes : KeepsSizes start.fast t.fast
  pub log : LogsPlay kept t.fast noted.rounds.rounds noted.logging

-- a round of all parties was played from s to s', whether or not it was noted
abbrev pub AllPlayedRound : ScriptData → Option ℕ → Rig → Noted → Noted → SessionState → SessionState → Room → Room → Result (Unit {0}) Memory → Type 0
AllPlayedRound script kept rig noted noted' s s' r r' answer =
    RoundPlayed (HasPlayedRounds script kept rig noted' s') ((rounds : List RoundNoted) × Plays script rig.files.now rounds s') (script.cycles - length noted'.rounds.rounds < script.cycles - length noted.rounds.rounds) s s' r r' answer

-- ## What is left

-- the file of a piece holds the sound of what was played on a stage, and no other has changed
abbrev pub SetsSound : Piece → Stage → Files → Files → Type 0
SetsSound piece s old new = SetsFile old piece.name.now (Some (pcm_of piece.script.now.frames s.parties.fast.log)) new

-- no file has changed, or only that of the piece, which holds a front of the sound of some first rounds
abbrev pub LeavesPiece : Piece → Files → Files → Type 0
LeavesPiece piece old new = LeavesRun piece.script.now piece.files.now piece.name.now old new

-- a log with this room is kept of these rounds of a stage, or none is
abbrev pub LogsOn : Option ℕ → Noted → Stage → Type 0
LogsOn kept noted s = LogsPlay kept s.parties.fast noted.rounds.rounds noted.logging
