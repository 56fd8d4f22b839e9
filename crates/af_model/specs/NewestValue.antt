-- The history of a newest-value cell: which order of stores and loads is legal.
use Rattle.std.specs.Prelude.{◌≡◌, ℕ, ◌+◌, ◌≤◌, List}
use Rattle.af_model.specs.declared.newest.WriterEvent.{WriterEvent}
use Rattle.af_model.specs.declared.newest.WriterEvent.TheVariants.{Store}
use Rattle.af_model.specs.declared.newest.WriterEvent.TheVariants as writes
use Rattle.af_model.specs.declared.newest.ReaderEvent.{ReaderEvent}
use Rattle.af_model.specs.declared.newest.ReaderEvent.TheVariants.{Load}
use Rattle.af_model.specs.declared.newest.ReaderEvent.TheVariants as reads
use Rattle.af_model.specs.Order.{Event, one, two, HasOrder}

-- the point of a cell: how many values were stored, the last of them, or the first content, and how many events each party has had
pub record CellPoint (T : Type 0) : Type 0 where
  pub number : ℕ
  pub value : T
  pub writes : ℕ
  pub reads : ℕ

module _ {T : Type 0} where
  abbrev pub start_value : T → CellPoint T
  start_value x = record { number = 0; value = x; writes = 0; reads = 0 }

  abbrev pub legal_value : CellPoint T → Event (WriterEvent T) (ReaderEvent T) → Type 0
  legal_value p (one (Store x)) = Unit {0}
  legal_value p (one (writes.Learn k)) = k ≤ p.reads
  legal_value p (two (Load n x)) = (n ≡ p.number) × (x ≡ p.value)
  legal_value p (two (reads.Learn k)) = k ≤ p.writes

  abbrev pub next_value : CellPoint T → Event (WriterEvent T) (ReaderEvent T) → CellPoint T
  next_value p (one (Store x)) = record { number = p.number + 1; value = x; writes = p.writes + 1; reads = p.reads }
  next_value p (one (writes.Learn k)) = record { number = p.number; value = p.value; writes = p.writes + 1; reads = p.reads }
  next_value p (two e) = record { number = p.number; value = p.value; writes = p.writes; reads = p.reads + 1 }

  -- the two lists stand in one order, in which each load shows the last value stored before it, and what was learnt stands before
  abbrev pub HasValueHistory : T → List (WriterEvent T) → List (ReaderEvent T) → Type 0
  HasValueHistory first ws rs = HasOrder legal_value next_value (start_value first) ws rs
