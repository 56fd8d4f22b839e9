-- What a play shows, and its summary, by its journal alone.
use Rattle.std.specs.Prelude.{◌≡◌, List}
use Rattle.af_base.specs.declared.frame.Frame.{Frame}
use Rattle.af_model.specs.Journals.{JournalData}
use Rattle.af_rendering.specs.Alone.{shown_from, summary_by}
use Rattle.af_runs.specs.LegalRuns.{run_of}
use Rattle.af_script.specs.Data.{ScriptData}
use Rattle.af_session.specs.Ends.{EndsState}
use Rattle.af_session.specs.Shown.{shown_by, summary_told}

-- what a journal shows with these ends, and the summary, are those of the run that the journal records
pub record IsToldAlone (script : ScriptData) (files : List (List Frame)) (j : JournalData) (ends : EndsState) : Type 0 where
  pub summary : summary_told script.frames j ends ≡ summary_by script j (run_of script files j)
  pub shown : shown_by script.frames j ends.normal.mutator.past.events ≡ shown_from script j (run_of script files j)
