-- What a session is played on: before its first turn, and once its rounds were played.
use Rattle.std.specs.Prelude.{◌≡◌, ◌*◌, ◌<◌, ◌≤◌, ◌^◌, ◌++◌, ℕ, All, List, [], length}
use Rattle.af_base.specs.declared.frame.Frame.{Frame}
use Rattle.af_link.specs.declared.links.Links.{Links}
use Rattle.af_model.specs.JournalForm.{IsJournal, IsWhole}
use Rattle.af_model.specs.Journals.{RoundsNoted, journal_of}
use Rattle.af_party.specs.Parties.{PartyState}
use Rattle.af_script.specs.Data.{ScriptData}
use Rattle.af_script.specs.Form.{IsScript}
use Rattle.af_rendering.specs.declared.staging.Stage.{Stage}
use Rattle.af_session.specs.NewSession.{IsNewSession}
use Rattle.af_rendering.specs.Rendered.{Renders}
use Rattle.af_session.specs.Rooms.{IsNewRoom}
use Rattle.af_session.specs.declared.room.Room.{Room}
use Rattle.af_engine.specs.Shares.{AreLinksOf}
use Rattle.af_session.specs.Shown.{shown_in}
use Rattle.af_session.specs.Together.{AreTogether, SessionState}
use Rattle.af_tally.specs.Sound.{pcm_of}
use Rattle.af_tally.specs.Summaries.{Shown}
use Rattle.af_tally.specs.Tallies.{IsTally}

-- The buffer has the frames of a cycle of these parties, which are few. There is room for the bytes of four rounds; those of three at most wait in it, and they are the end of the sound
pub record HasRoomToWait (s : SessionState) (room : Room) : Type 0 where
  pub small : s.fast.frames < 2 ^ 32
  pub buffer : length room.buffer.items ≡ s.fast.frames
  pub bytes : 256 * s.fast.frames ≤ room.bytes.room
  pub waits : length room.bytes.items ≤ 192 * s.fast.frames
  pub ends : (front : List ℕ) × (front ++ room.bytes.items ≡ pcm_of s.fast.frames s.fast.log)

-- a new stage: the new parties of an accepted script with what they share, with new room
pub record IsNewStage (script : ScriptData) (s : Stage) : Type 0 where
  pub script_is : IsScript script
  pub new : IsNewSession script s.shared s.parties
  pub together : (links : Links) → AreLinksOf s.shared links → AreTogether links s.parties
  pub room : IsNewRoom script.frames (length script.tracks) s.room

-- what these rounds, which were played on a stage, show with the log
abbrev pub shown_on : ScriptData → RoundsNoted → Stage → Shown
shown_on script rounds s = shown_in script.frames rounds s.parties.fast.log s.parties.normal.mutator.past.events

-- These rounds, which were played on a stage, make a journal with the log, and the tally is theirs. There is room for a count of each client
pub record IsNoted (script : ScriptData) (rounds : RoundsNoted) (s : Stage) : Type 0 where
  pub tracks : rounds.tracks ≡ length script.tracks
  pub whole : IsWhole rounds s.parties.fast.log
  pub form : IsJournal (journal_of rounds s.parties.fast.log)
  pub count : length s.parties.clients ≡ length script.tracks
  pub tally : IsTally (shown_on script rounds s) s.room.tally
  pub released : All (λ (p : PartyState). p.stream.released < 2 ^ 58) s.parties.clients
  pub room : s.room.released ≡ record { items = []; room = length script.tracks }

-- all turns of the script were played on the stage, as these rounds
pub record HasRendered (script : ScriptData) (files : List (List Frame)) (rounds : RoundsNoted) (s : Stage) : Type 0 where
  pub all : Renders script files script.turns rounds.rounds s.parties
  pub noted : IsNoted script rounds s
