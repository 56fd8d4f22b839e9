-- The turns of a script that were played before a render was cut off.
use Rattle.std.specs.Prelude.{◌≡◌, List, length}
use Rattle.af_base.specs.declared.frame.Frame.{Frame}
use Rattle.af_model.specs.Journals.{JournalData}
use Rattle.af_runs.specs.LegalRuns.{marks_of, session_of}
use Rattle.af_runs.specs.Runs.{new_run}
use Rattle.af_runs.specs.TurnRuns.{AreTurns}
use Rattle.af_script.specs.Data.{ScriptData}

-- The rounds of a journal are the turns of a script, one by one: each is legal, and each event sees what all before it left
pub record AreTurnsOf (script : ScriptData) (files : List (List Frame)) (j : JournalData) : Type 0 where
  pub tracks : j.tracks ≡ length script.tracks
  pub turns : AreTurns (session_of script files) (marks_of j.rounds) (new_run (session_of script files)) script.turns j.rounds
