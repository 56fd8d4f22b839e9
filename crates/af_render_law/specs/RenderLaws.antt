-- What the laws on renders say.
use Rattle.std.specs.Prelude.{◌≡◌, List}
use Rattle.af_base.specs.declared.frame.Frame.{Frame}
use Rattle.af_model.specs.Journals.{JournalData}
use Rattle.af_runs.specs.LegalRuns.{session_of}
use Rattle.af_runs.specs.Runs.{Run, new_run}
use Rattle.af_runs.specs.TurnRuns.{IsTurnRun, run_alone}
use Rattle.af_script.specs.Data.{ScriptData}
use Rattle.af_script.specs.Form.{IsScript}
use Rattle.af_session.specs.Ends.{EndsState}
use Rattle.af_rendering.specs.Rendered.{HandsBack}
use Rattle.af_session.specs.Shown.{shown_by, summary_told}
use Rattle.af_rendering.specs.Alone.{shown_from, summary_by}
use Rattle.af_told_law.specs.KeptEnds.{KeepsLists}

-- the run after all turns of a script, as a journal tells it
abbrev pub run_told : ScriptData → List (List Frame) → JournalData → Run
run_told script files j = let s = session_of script files in run_alone s (new_run s) script.turns j.rounds

-- What a render hands back: its journal is by itself a turn run of the script and its files, what it shows and the summary are those of the journal alone, and the lists that the ends keep are those of the run that it tells
pub record IsToldAlone (script : ScriptData) (files : List (List Frame)) (j : JournalData) (ends : EndsState) : Type 0 where
  pub run : IsTurnRun script files j
  pub summary : summary_told script.frames j ends ≡ summary_by script j (run_told script files j)
  pub shown : shown_by script.frames j ends.normal.mutator.past.events ≡ shown_from script j (run_told script files j)
  pub kept : KeepsLists (run_told script files j) ends

abbrev pub RendersAreToldAlone : ScriptData → List (List Frame) → JournalData → EndsState → Type 0
RendersAreToldAlone script files j ends = IsScript script → HandsBack script files j ends → IsToldAlone script files j ends
