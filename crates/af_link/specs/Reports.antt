-- What contracts see of the report's two ends, and how the cycles of reports rise.
use Rattle.std.specs.Prelude.{◌≡◌, ℕ, ◌<◌, ◌≤◌, max, List, [], ◌∷◌, Some, take}
use Rattle.atomic_table.specs.Seated.{TableId}
use Rattle.af_base.specs.declared.report.Report.{Report}
pub use Rattle.af_model.specs.Reports.{no_report}
use Rattle.af_model.specs.declared.newest.WriterEvent.{WriterEvent}
use Rattle.af_model.specs.declared.newest.WriterEvent.TheVariants.{Store}
use Rattle.af_model.specs.declared.newest.WriterEvent.TheVariants as writes
use Rattle.af_model.specs.declared.newest.ReaderEvent.{ReaderEvent}
use Rattle.af_model.specs.declared.newest.ReaderEvent.TheVariants.{Load}
use Rattle.af_model.specs.declared.newest.ReaderEvent.TheVariants as reads
use Rattle.af_latest.specs.Ends.{Stores}
use Rattle.af_latest.specs.Laws.{last_of}

-- the cell that a writer stores into, and its events
pub record WriterSide : Type 0 where
  pub cell : TableId
  pub events : List (WriterEvent Report)

-- the cell that a reader loads from, and its events
pub record ReaderSide : Type 0 where
  pub cell : TableId
  pub events : List (ReaderEvent Report)

-- the cycle of the last report stored, 0 if none was
abbrev pub last_cycle : List (WriterEvent Report) → ℕ
last_cycle events = (last_of no_report events).cycle

-- each report is of a later cycle than the one stored before it
abbrev pub Rises : ℕ → List (WriterEvent Report) → Type 0
Rises low [] = Unit {0}
Rises low (Store x ∷ ws) = (low < x.cycle) × Rises x.cycle ws
Rises low (writes.Learn count ∷ ws) = Rises low ws

-- no load shows an earlier cycle than one before it, or than what was learnt before it
abbrev pub CyclesNeverFall : List (WriterEvent Report) → ℕ → List (ReaderEvent Report) → Type 0
CyclesNeverFall ws low [] = Unit {0}
CyclesNeverFall ws low (Load n x ∷ rs) = (low ≤ x.cycle) × CyclesNeverFall ws x.cycle rs
CyclesNeverFall ws low (reads.Learn count ∷ rs) = CyclesNeverFall ws (max low (last_cycle (take count ws))) rs

-- the writer's first content was all zeros, and its reports rise
pub record IsReportWriter (w : Stores Report) : Type 0 where
  pub first : w.first ≡ Some no_report
  pub rises : Rises 0 w.events
