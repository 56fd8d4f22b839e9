-- What the laws say.
use Rattle.std.specs.Prelude.{ℕ, List}
use Rattle.af_model.specs.Journals.{RoundSeen}
use Rattle.af_script.specs.declared.op.TurnSpec.{TurnSpec}
use Rattle.af_script.specs.Form.{IsScript}
use Rattle.af_runs.specs.Blocks.{BlockTold, Marks, HasBlockHistory, IsHistoryAsTold}
use Rattle.af_runs.specs.Runs.{new_run}
use Rattle.af_runs.specs.Sessions.{Session}
use Rattle.af_runs.specs.Told.{QueueTold, ReportTold, PipeTold, HasQueueHistory, IsQueueAsTold, HasReportHistory, IsReportAsTold, HasPipeTold, IsPipeAsTold}
use Rattle.af_runs.specs.TurnRuns.{AreTurns}
use Rattle.af_turn_law.specs.ListTurns.{AreListTurns, FindShutUnseen}
use Rattle.af_turn_law.specs.Marking.{client_marks, server_marks, mutator_marks, observer_marks, writer_marks, reader_marks}
use Rattle.af_turn_law.specs.Phased.{IsPhased, IsBlockPhased}

abbrev pub QueueIsAsTold : ℕ → QueueTold → Type 0
QueueIsAsTold frames told = IsPhased mutator_marks observer_marks told → HasQueueHistory frames told → IsQueueAsTold frames told

abbrev pub ReportIsAsTold : ReportTold → Type 0
ReportIsAsTold told = IsPhased writer_marks reader_marks told → HasReportHistory told → IsReportAsTold told

abbrev pub PipeIsAsTold : ℕ → PipeTold → Type 0
PipeIsAsTold size p = IsPhased client_marks server_marks p.told → HasPipeTold size p → IsPipeAsTold size p

abbrev pub BlockIsAsTold : BlockTold → Type 0
BlockIsAsTold b = IsBlockPhased b.told → HasBlockHistory b → IsHistoryAsTold b

-- turns whose lists have legal orders are those of a turn run from its beginning, if those that find a track shut do so as FindShutUnseen says
abbrev pub ListTurnsAreTurns : Session → Marks → List TurnSpec → List RoundSeen → Type 0
ListTurnsAreTurns s marks turns rounds = IsScript s.script → AreListTurns s marks (new_run s) turns rounds → FindShutUnseen s (new_run s) turns rounds → AreTurns s marks (new_run s) turns rounds
