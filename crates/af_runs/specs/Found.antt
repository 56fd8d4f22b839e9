-- What a turn of the normal mixer finds in a run, and which turn is legal by it.
use Rattle.std.specs.Prelude.{◌≡◌, ℕ, true, List, [], ◌∷◌}
use Rattle.af_base.specs.declared.log.SlotEntry.{SlotEntry}
use Rattle.af_base.specs.declared.report.Report.{Report}
use Rattle.af_base.specs.Turn.{Turn, TakeSeen}
use Rattle.af_life.specs.Kept.{Setup, asked, NormalKept, Outside, track_in}
use Rattle.af_life.specs.Turn.{LegalTurn}
use Rattle.af_life.specs.TurnEvents.{takes_from}
use Rattle.af_model.specs.Cycles.{Listed}
use Rattle.af_runs.specs.Blocks.{BlockTold, Marks, listed}
use Rattle.af_runs.specs.Fronts.{front_of, lawful_front, fronts_by}

-- what a turn finds: the report that it loads, and the two blocks of each track
pub record TurnFound : Type 0 where
  pub report : Report
  pub streams : ℕ → BlockTold
  pub commands : ℕ → BlockTold

-- the front of the look for a buffer, 0 if there is none
abbrev pub take_front : (Listed → SlotEntry → ℕ) → Listed → List TakeSeen → ℕ
take_front front s [] = 0
take_front front s (take ∷ takes) = front s take.slot

-- what a turn sees beside its entry, with the front of each look by this rule
abbrev pub outside_with : (ℕ → Listed → SlotEntry → ℕ) → Setup → TurnFound → Turn → Outside
outside_with front c f e = record {
  report = f.report;
  streams = λ i. listed (f.streams i);
  commands = λ i. listed (f.commands i);
  stream_front = λ i. take_front (front (asked c)) (listed (f.streams i)) (takes_from e.mixes i);
  command_fronts = λ i. fronts_by front (listed (f.commands i)) (track_in e i).looks;
}

-- what a turn sees beside its entry, as the journal tells it
abbrev pub outside_of : Setup → TurnFound → Turn → Outside
outside_of c f e = outside_with front_of c f e

-- The turn follows from what was kept and from what it found. On a lawful block each front that an answer leaves open is the server's own, and on another it may be any
pub record LegalTurnBy (c : Setup) (marks : Marks) (f : TurnFound) (m : NormalKept) (e : Turn) : Type 0 where
  pub outside : Outside
  pub found : outside ≡ record (outside_of c f e) { stream_front = outside.stream_front; command_fronts = outside.command_fronts }
  pub streams : (track : ℕ) → marks.streams track ≡ true → outside.stream_front track ≡ (outside_with lawful_front c f e).stream_front track
  pub commands : (track : ℕ) → marks.commands track ≡ true → outside.command_fronts track ≡ (outside_with lawful_front c f e).command_fronts track
  pub legal : LegalTurn c outside m e
