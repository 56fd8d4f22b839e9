-- What a play answers, by the stage that was played, and what is promised of each answer, whatever the store.
use Rattle.std.specs.Prelude.{◌≡◌, ◌⊎◌, ◌≤◌, ◌++◌, ℕ, true, false, List, Option, Some, Result, IfErr, IfOk}
use Rattle.af_base.specs.declared.frame.Frame.{Frame}
use Rattle.af_enough.specs.Enough.{HasEnoughCycles}
use Rattle.af_nblog.specs.declared.entries.Note.{Note}
use Rattle.af_nblog.specs.LogText.{log_text}
use Rattle.af_model.specs.Journals.{JournalData, RoundsNoted, journal_of}
use Rattle.af_io.specs.Files.{Files, SetsFile}
use Rattle.af_runs.specs.LegalRuns.{IsCutRun, IsLegalRun}
use Rattle.af_runs.specs.Pcm.{journal_pcm}
use Rattle.af_script.specs.Data.{ScriptData}
use Rattle.af_script.specs.Form.{IsScript}
use Rattle.af_playing.specs.declared.answering.PlayFault.{PlayFault}
use Rattle.af_playing.specs.declared.answering.PlayFault.TheVariants as fault
use Rattle.af_rendering.specs.declared.rendering.Played.{Played}
use Rattle.af_rendering.specs.declared.staging.Stage.{Stage}
use Rattle.af_session.specs.Ends.{EndsState, ends_from}
use Rattle.af_side_by_side.specs.Logging.{IsLogOf, LoggingState, TellsLog}
use Rattle.af_playing.specs.PlayedRuns.{AtFault, AtLimit, HandsBackRun, KeepsPromises, LeavesRun, all_ended}
use Rattle.af_session.specs.Shown.{shown_by, summary_told}
use Rattle.af_tally.specs.Steps.{AreFew}

-- The journal of these rounds and the ends of a stage are handed back: if all parties have ended with the summary, and else as cut off at the limit, in whose place alone Memory may stand. By itself, the journal of a play that is done is that of a legal run, and the journal of one that was cut off is that of a cut run
pub record Answers (script : ScriptData) (files : List (List Frame)) (rounds : RoundsNoted) (s : Stage) (result : Result Played PlayFault) : Type 0 where
  pub ended : IfOk result (λ _. all_ended s.parties ≡ true)
  pub journal : IfOk result (λ p. p.journal ≡ journal_of rounds s.parties.fast.log)
  pub enough : IsScript script → HasEnoughCycles script → IfErr result (λ _. ⊥)
  pub ends : IfOk result (λ p. p.ends ≡ ends_from s.parties)
  pub summary : IfOk result (λ p. p.summary ≡ summary_told script.frames p.journal p.ends)
  pub legal : IfOk result (λ p. IsLegalRun script files p.journal)
  pub cut : IfErr result (λ f. (all_ended s.parties ≡ false) × ((f ≡ fault.CycleLimit (journal_of rounds s.parties.fast.log) (ends_from s.parties)) ⊎ (f ≡ fault.Memory)))
  pub cut_run : IfErr result (AtLimit (λ journal _. IsCutRun script files journal))

-- ## What is promised of a play, whatever the store

-- What is promised if all parties have ended: their run is handed back, its journal by itself keeps the promises of a play that is done, and its summary is that of the journal and the ends
pub record IsDonePlay (script : ScriptData) (files : List (List Frame)) (p : Played) : Type 0 where
  pub played : HandsBackRun true script files p.journal p.ends
  pub promises : KeepsPromises script files p.journal
  pub summary : p.summary ≡ summary_told script.frames p.journal p.ends

-- What is promised if the log was full first: the run so far is handed back, and its journal by itself is that of a cut run
pub record IsCutPlay (script : ScriptData) (files : List (List Frame)) (journal : JournalData) (ends : EndsState) : Type 0 where
  pub played : HandsBackRun false script files journal ends
  pub cut_run : IsCutRun script files journal

-- these are the steps of the cycles of the journal, one after the other, each with those of its note, and none took more than it may
abbrev pub TookFew : ℕ → List (ℕ × ℕ) → JournalData → EndsState → Type 0
TookFew frames steps journal ends = AreFew (shown_by frames journal ends.normal.mutator.past.events) steps

-- All that is promised of a play's answer: of one that is done, of one that was cut off, and that a script with enough cycles is never cut off
pub record KeepsPlay (script : ScriptData) (files : List (List Frame)) (result : Result Played PlayFault) : Type 0 where
  pub done : IfOk result (IsDonePlay script files)
  pub limit : IfErr result (AtLimit (IsCutPlay script files))
  pub enough : HasEnoughCycles script → IfErr result (AtLimit (λ journal ends. ⊥))

-- ## What is promised of its file

-- What is promised of the file of a play: if all parties have ended, or the log was full first, the file holds the sound of the journal. If the store failed or an allocation was refused, the file is as before or holds a front of the sound of some first rounds. The whole sound is such a front
pub record KeepsFiles (script : ScriptData) (files : List (List Frame)) (name : List ℕ) (old new : Files) (result : Result Played PlayFault) : Type 0 where
  pub written : IfOk result (λ p. SetsFile old name (Some (journal_pcm script.frames p.journal)) new)
  pub cut : IfErr result (AtLimit (λ journal _. SetsFile old name (Some (journal_pcm script.frames journal)) new))
  pub left : IfErr result (AtFault (LeavesRun script files name old new))
  pub left_whole : IfOk result (λ _. LeavesRun script files name old new)

-- ## What is promised of its log

-- a log with this room, or no log, was kept of the journal of what was played
abbrev pub TellsLogOf : Option ℕ → ℕ → Result Played PlayFault → LoggingState → Type 0
TellsLogOf kept frames played l = IfOk played (λ p. TellsLog kept frames p.journal l)

-- the text of a log of this journal stands behind another text; with room for 32 notes no note was refused
abbrev pub AppendsLogOf : (frames room : ℕ) → JournalData → List ℕ → List ℕ → Type 0
AppendsLogOf frames room j text text' = (notes : List Note) × (refused : ℕ) × IsLogOf frames room j notes refused × (text' ≡ text ++ log_text notes refused) × (32 ≤ room → refused ≡ 0)

-- the text of a log of the journal of what was played stands behind another text
abbrev pub AppendsLogOfPlay : (frames room : ℕ) → Result Played PlayFault → List ℕ → List ℕ → Type 0
AppendsLogOfPlay frames room played text text' = IfOk played (λ p. AppendsLogOf frames room p.journal text text')
