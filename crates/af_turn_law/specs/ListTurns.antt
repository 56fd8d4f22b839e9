-- Turns of which after each round only the lists of the parties are known to have legal orders, as the real objects promise it.
use Rattle.std.specs.Prelude.{◌≡◌, List, [], ◌∷◌, Some}
use Rattle.af_base.specs.Turn.{Turn}
use Rattle.af_model.specs.Journals.{RoundSeen}
use Rattle.af_script.specs.declared.op.TurnSpec.{TurnSpec}
use Rattle.af_runs.specs.Blocks.{Marks}
use Rattle.af_runs.specs.Rounds.{HaveHistories}
use Rattle.af_runs.specs.Runs.{Run, found_before, with_ends}
use Rattle.af_runs.specs.Sessions.{Session}
use Rattle.af_runs.specs.TurnRuns.{IsMadeBy, met_alone}
use Rattle.af_turn_law.specs.Acting.{FindsShutUnseen}

-- the rounds are those of the turns, one by one; and after each one the lists of the blocks, the queue, the report and the pipe have some legal orders
abbrev pub AreListTurns : Session → Marks → Run → List TurnSpec → List RoundSeen → Type 0
AreListTurns s marks run [] rounds = rounds ≡ []
AreListTurns s marks run (turn ∷ turns) [] = ⊥
AreListTurns s marks run (turn ∷ turns) (round ∷ rounds) =
    IsMadeBy s marks run turn round × HaveHistories s (met_alone s run turn round) × AreListTurns s marks (with_ends (met_alone s run turn round)) turns rounds

-- each turn of the normal mixer that finds a track shut, whose stream block is tame so far, does so as FindsShutUnseen says
abbrev pub FindShutUnseen : Session → Run → List TurnSpec → List RoundSeen → Type 0
FindShutUnseen s run [] rounds = Unit {0}
FindShutUnseen s run (turn ∷ turns) [] = Unit {0}
FindShutUnseen s run (turn ∷ turns) (round ∷ rounds) =
    ((e : Turn) → round.turn ≡ Some e → FindsShutUnseen s run (found_before s run [] e) e) × FindShutUnseen s (with_ends (met_alone s run turn round)) turns rounds
