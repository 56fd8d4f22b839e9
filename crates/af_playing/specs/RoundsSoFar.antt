-- The rounds that were played before a play was cut off by the outside.
use Rattle.std.specs.Prelude.{◌≡◌, List, length}
use Rattle.af_base.specs.declared.frame.Frame.{Frame}
use Rattle.af_model.specs.Journals.{JournalData}
use Rattle.af_runs.specs.LegalRuns.{marks_of, session_of}
use Rattle.af_runs.specs.Runs.{new_run}
use Rattle.af_script.specs.Data.{ScriptData}
use Rattle.af_play_law.specs.PlayRuns.{SureRounds}

-- The rounds of a journal are those of a play, one by one: each is legal after those before it, up to the last meeting of each stream
pub record AreRoundsOf (script : ScriptData) (files : List (List Frame)) (j : JournalData) : Type 0 where
  pub tracks : j.tracks ≡ length script.tracks
  pub rounds : SureRounds (session_of script files) (marks_of j.rounds) (new_run (session_of script files)) j.rounds
