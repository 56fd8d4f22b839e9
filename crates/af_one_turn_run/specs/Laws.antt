-- What the law says.
use Rattle.std.specs.Prelude.{◌≡◌, List}
use Rattle.af_base.specs.declared.frame.Frame.{Frame}
use Rattle.af_model.specs.Journals.{JournalData}
use Rattle.af_script.specs.Data.{ScriptData}
use Rattle.af_script.specs.Form.{IsScript}
use Rattle.af_runs.specs.TurnRuns.{IsTurnRun}
use Rattle.af_one_turn_run.specs.MetLast.{AllMetLast}
use Rattle.af_one_turn_run.specs.NoPokes.{PlainTracks}

-- two turn runs of one script without pokes, in each of which each stream proxy takes part in the last meeting, are the same journal
abbrev pub TurnRunsAreOne : ScriptData → List (List Frame) → JournalData → JournalData → Type 0
TurnRunsAreOne script files j k = IsScript script → PlainTracks script.tracks → IsTurnRun script files j → IsTurnRun script files k → AllMetLast script files j → AllMetLast script files k → j ≡ k
