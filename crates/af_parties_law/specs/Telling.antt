-- What the laws on the journal and the ends of a play say.
use Rattle.std.specs.Prelude.{Bool, List}
use Rattle.af_base.specs.declared.frame.Frame.{Frame}
use Rattle.af_model.specs.Journals.{JournalData}
use Rattle.af_parties_law.specs.PlayedAlone.{IsToldAlone}
use Rattle.af_parties_law.specs.Spelled.{CallsStandOnce, NoneOlder, PushesStandOnce, ReleasedAsTold}
use Rattle.af_playing.specs.PlayKept.{IsCutPlay, IsDonePlay}
use Rattle.af_playing.specs.PlayedRuns.{HandsBackRun}
use Rattle.af_rendering.specs.declared.rendering.Played.{Played}
use Rattle.af_runs.specs.LegalRuns.{run_of}
use Rattle.af_script.specs.Data.{ScriptData}
use Rattle.af_session.specs.Ends.{EndsState}
use Rattle.af_told_law.specs.KeptEnds.{KeepsLists}

-- What a journal records of its run, and the ends with it: each client's calls and each state pushed stand once in the journal, each client released as many frames as its calls put there, no cycle uses a state older than one before it, and the ends keep the lists of the run that the journal records
pub record RecordsItsRun (script : ScriptData) (files : List (List Frame)) (journal : JournalData) (ends : EndsState) : Type 0 where
  pub calls : CallsStandOnce journal ends
  pub released : ReleasedAsTold journal ends
  pub pushes : PushesStandOnce journal ends
  pub never_older : NoneOlder journal
  pub kept : KeepsLists (run_of script files journal) ends

-- what is handed back of a play, whether all parties have ended or not, records its run
abbrev pub PlaysRecordTheirRuns : Bool → ScriptData → List (List Frame) → JournalData → EndsState → Type 0
PlaysRecordTheirRuns ended script files journal ends = HandsBackRun ended script files journal ends → RecordsItsRun script files journal ends

-- what is handed back of a play that is done is told alone
abbrev pub DonePlaysAreToldAlone : ScriptData → List (List Frame) → Played → Type 0
DonePlaysAreToldAlone script files played = IsDonePlay script files played → IsToldAlone script files played.journal played.ends

-- what is handed back of a play that was cut off is told alone
abbrev pub CutPlaysAreToldAlone : ScriptData → List (List Frame) → JournalData → EndsState → Type 0
CutPlaysAreToldAlone script files journal ends = IsCutPlay script files journal ends → IsToldAlone script files journal ends
