-- What the turns of a script come to, and what they leave in a file.
use Rattle.std.specs.Prelude.{◌≡◌, ◌⊎◌, ℕ, ◌<◌, ◌≤◌, ◌++◌, List, Some, length, take, Result, OnOk, OnErr}
use Rattle.af_base.specs.declared.frame.Frame.{Frame}
use Rattle.af_io.specs.Files.{Files, SameFiles, SetsFile, LeavesFront}
use Rattle.af_io.specs.declared.store.StoreError.{StoreError}
use Rattle.af_model.specs.JournalForm.{IsJournal}
use Rattle.af_model.specs.Journals.{JournalData, RoundNoted, journal_of}
use Rattle.af_script.specs.Data.{ScriptData}
use Rattle.af_script.specs.declared.op.Op.{Op}
use Rattle.af_script.specs.declared.op.TurnSpec.{TurnSpec}
use Rattle.af_session.specs.Ends.{EndsState, ends_from}
use Rattle.af_session.specs.NewSession.{IsNewSession}
use Rattle.af_session.specs.Rounds.{Given, IsTurnRun, ops_at, file_at}
use Rattle.af_engine.specs.Shares.{SharedState}
use Rattle.af_session.specs.Shown.{shown_by, summary_told}
use Rattle.af_tally.specs.declared.summary.Summary.{Summary}
use Rattle.af_tally.specs.Sound.{pcm_of}
use Rattle.af_tally.specs.Steps.{AreFew}
use Rattle.af_session.specs.Together.{SessionState}
use Rattle.af_party.specs.Works.{frames_to_come}

-- a file has the frames that these ops write, and not too many
pub record IsFileFor (ops : List Op) (file : List Frame) : Type 0 where
  pub enough : frames_to_come ops ≤ length file
  pub few : length file ≤ 4194304

-- each track has its file
pub record HaveFiles (g : Given) : Type 0 where
  pub count : length g.files ≡ length g.tracks
  pub each : (i : ℕ) → i < length g.tracks → IsFileFor (ops_at g i) (file_at g i)

-- ## Turns

-- these turns were played from s to t with these rounds, and the sound of the log grew by just the bytes of the rounds
pub record Runs (g : Given) (turns : List TurnSpec) (s : SessionState) (rounds : List RoundNoted) (t : SessionState) : Type 0 where
  pub bytes : List ℕ
  pub run : IsTurnRun g turns s rounds bytes t
  pub sound : pcm_of s.fast.frames t.fast.log ≡ pcm_of s.fast.frames s.fast.log ++ bytes

-- The parties t have played these turns since they were made of the script, with these rounds: a turn run with the files, whose bytes are the sound of the log
pub record Renders (script : ScriptData) (files : List (List Frame)) (turns : List TurnSpec) (rounds : List RoundNoted) (t : SessionState) : Type 0 where
  pub shared : SharedState
  pub start : SessionState
  pub new : IsNewSession script shared start
  pub bytes : List ℕ
  pub run : IsTurnRun (record { tracks = script.tracks; files = files }) turns start rounds bytes t
  pub sound : bytes ≡ pcm_of script.frames t.fast.log

-- the parties t have played these turns with some rounds
abbrev pub Rendered : ScriptData → List (List Frame) → List TurnSpec → SessionState → Type 0
Rendered script files turns t = (rounds : List RoundNoted) × Renders script files turns rounds t

-- ## Files

-- the file of this name has a sound but for the last bytes, which wait to go out
abbrev pub HoldsBut : List ℕ → Files → List ℕ → List ℕ → Files → Type 0
HoldsBut waiting base name sound files = (out : List ℕ) × (out ++ waiting ≡ sound) × SetsFile base name (Some out) files

-- what a call makes of the file of this name, which had these bytes: it has those, or after an error a front of those
abbrev pub Extends : {T : Type 0} → Result T StoreError → List ℕ → List ℕ → List ℕ → Files → Files → Type 0
Extends result name had has old new = (base : Files) → SetsFile base name (Some had) old → OnOk result (SetsFile base name (Some has) new) × OnErr result (LeavesFront base name has new)

-- what a call makes of the file of this name, which had a sound but for the bytes that waited: all but for those that wait now, or after an error a front of the sound
abbrev pub Sends : {T : Type 0} → Result T StoreError → List ℕ → List ℕ → List ℕ → Files → Files → Type 0
Sends result name waited waits old new = (base : Files) (sound : List ℕ) → HoldsBut waited base name sound old → OnOk result (HoldsBut waits base name sound new) × OnErr result (LeavesFront base name sound new)

-- no file has changed; or only the file of this name, which holds a front of the sound of some first turns
abbrev pub LeavesSound : ScriptData → List (List Frame) → List ℕ → Files → Files → Type 0
LeavesSound script files name old new = SameFiles old new
    ⊎ ((n : ℕ) × (t : SessionState) × Rendered script files (take n script.turns) t × LeavesFront old name (pcm_of script.frames t.fast.log) new)

-- ## What a run hands back

-- The journal and the ends of the parties that have played all turns, with a client for each track. The journal has the rounds of the turn run, the entries of the fast mixer's log, and its form
pub record HandsBack (script : ScriptData) (files : List (List Frame)) (journal : JournalData) (ends : EndsState) : Type 0 where
  pub parties : SessionState
  pub rounds : List RoundNoted
  pub rendered : Renders script files script.turns rounds parties
  pub journal_is : journal ≡ journal_of (record { tracks = length script.tracks; rounds = rounds }) parties.fast.log
  pub form : IsJournal journal
  pub ends_are : ends ≡ ends_from parties
  pub count : length ends.clients ≡ length script.tracks

-- What a render comes to, by its journal: the ends of the turn run, the summary of the journal with them, and the steps that its cycles took, each no more than it may
pub record ComesTo (script : ScriptData) (files : List (List Frame)) (journal : JournalData) (summary : Summary) (ends : EndsState) (steps : List (ℕ × ℕ)) : Type 0 where
  pub back : HandsBack script files journal ends
  pub summary_is : summary ≡ summary_told script.frames journal ends
  pub few : AreFew (shown_by script.frames journal ends.normal.mutator.past.events) steps
