-- How far a render has come, and the form of what was noted so far.
use Rattle.std.specs.Prelude.{◌≡◌, ◌+◌, ◌≤◌, ℕ, All, List, MatchOption, length, take}
use Rattle.af_base.specs.Log.{Logged}
use Rattle.af_base.specs.Sample.{IsFrame}
use Rattle.af_base.specs.declared.state.FastState.{FastState}
use Rattle.af_engine.specs.Shares.{SharedState}
use Rattle.af_model.proofs.EntriesMore.{AreWhole}
use Rattle.af_model.specs.JournalForm.{IsTurn}
use Rattle.af_model.specs.Journals.{RoundNoted, RoundsNoted, cycles_of}
use Rattle.af_rendering.specs.Rendered.{Runs}
use Rattle.af_script.specs.Data.{ScriptData}
use Rattle.af_script.specs.declared.op.TurnSpec.{TurnSpec}
use Rattle.af_session.specs.NewSession.{IsNewSession}
use Rattle.af_session.specs.Noted.{NotesNumbers}
use Rattle.af_session.specs.Rooms.{HasPlacesAt, IsReadyOn, KeepsRoom, KeepsSizes, KeepsSound, given_of}
use Rattle.af_session.specs.Rounds.{Given}
use Rattle.af_session.specs.Shown.{shown_at}
use Rattle.af_session.specs.Together.{SessionState}
use Rattle.af_session.specs.declared.rig.Rig.{Rig}
use Rattle.af_session.specs.declared.room.Room.{Room}
use Rattle.af_tally.specs.Tallies.{IsTally, Tallied}

-- ## Form

-- a round of its form: the calls of each client, and a turn of its form if there is one
pub record HasRoundForm (tracks : ℕ) (r : RoundNoted) : Type 0 where
  pub calls : length r.calls ≡ tracks
  pub turn : MatchOption r.turn (Unit {0}) (IsTurn tracks)

-- Rounds of so many tracks were noted, with as many cycles as the log has entries. The entries are of their form if their frames are
pub record AreNoted (tracks : ℕ) (noted : RoundsNoted) (log : Logged) : Type 0 where
  pub tracks_are : noted.tracks ≡ tracks
  pub each : All (HasRoundForm tracks) noted.rounds
  pub count : cycles_of noted.rounds ≡ length log.entries
  pub form : All IsFrame log.frames → AreWhole 0 log.frames log.entries

-- ## Turns

-- the rounds of so many tracks
abbrev pub noted_of : Given → List RoundNoted → RoundsNoted
noted_of g rounds = record { tracks = length g.tracks; rounds = rounds }

-- So far these turns were played from s to t, as these rounds
pub record SoFar (g : Given) (turns : List TurnSpec) (s : SessionState) (rounds : List RoundNoted) (t : SessionState) (tally : Tallied) : Type 0 where
  pub run : Runs g turns s rounds t
  pub tally_is : (first : FastState) → IsTally (shown_at first (length g.tracks) rounds t.fast) tally
  pub noted : AreNoted (length g.tracks) (noted_of g rounds) t.fast.log
  pub numbers : All NotesNumbers rounds

-- The first turns of the script, so many, were played by the parties since they were made of it, and they are ready for the next; the tally is that of the rounds
pub record HasPlayedTo (script : ScriptData) (rig : Rig) (n : ℕ) (t : SessionState) (tally : Tallied) : Type 0 where
  pub here : rig.tracks.now ≡ script.tracks
  pub shared : SharedState
  pub start : SessionState
  pub new : IsNewSession script shared start
  pub rounds : List RoundNoted
  pub far : SoFar (given_of rig) (take n script.turns) start rounds t tally
  pub few : n ≤ length script.turns
  pub ready : IsReadyOn rig n t
  pub places : HasPlacesAt n t tally
  pub frames : t.fast.frames ≡ start.fast.frames

-- the next turn was played from s to s', and its bytes wait behind those that waited
pub record TurnPlayed (script : ScriptData) (rig : Rig) (n n' : ℕ) (s s' : SessionState) (r r' : Room) : Type 0 where
  pub one : n' ≡ n + 1
  pub far : HasPlayedTo script rig n' s' r'.tally
  pub sizes : KeepsSizes s.fast s'.fast
  pub room : KeepsRoom r r'
  pub sound : KeepsSound s.fast s'.fast r.bytes.items r'.bytes.items
