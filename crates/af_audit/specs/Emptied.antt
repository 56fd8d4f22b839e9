-- What is left in the pipe by the end of a journal.
use Rattle.std.specs.Prelude.{◌≡◌, List}
use Rattle.af_base.specs.declared.frame.Frame.{Frame}
use Rattle.af_model.specs.Journals.{JournalData}
use Rattle.af_runs.specs.LegalRuns.{run_of}
use Rattle.af_script.specs.Data.{ScriptData}

-- nothing is left in the pipe: the frames taken from it are those that the normal mixer put into it
abbrev pub PipeIsEmptied : ScriptData → List (List Frame) → JournalData → Type 0
PipeIsEmptied script files j = let run = run_of script files j in run.pipe.taken ≡ run.pipe.put
