-- What a history of a newest-value cell says of its loads.
use Rattle.std.specs.Prelude.{ℕ, zero, suc, ◌+◌, ◌≤◌, max, List, [], ◌∷◌}
use Rattle.af_model.specs.declared.newest.WriterEvent.{WriterEvent}
use Rattle.af_model.specs.declared.newest.WriterEvent.TheVariants.{Store}
use Rattle.af_model.specs.declared.newest.WriterEvent.TheVariants as writes
use Rattle.af_model.specs.declared.newest.ReaderEvent.{ReaderEvent}
use Rattle.af_model.specs.declared.newest.ReaderEvent.TheVariants.{Load}
use Rattle.af_model.specs.declared.newest.ReaderEvent.TheVariants as reads

module _ {T : Type 0} where
  -- how many values the first k events of the writer stored
  abbrev pub stored_by : List (WriterEvent T) → ℕ → ℕ
  stored_by [] k = 0
  stored_by (Store x ∷ ws) zero = 0
  stored_by (Store x ∷ ws) (suc k) = stored_by ws k + 1
  stored_by (writes.Learn c ∷ ws) zero = 0
  stored_by (writes.Learn c ∷ ws) (suc k) = stored_by ws k

  -- no load is older than one before it, or than what was learnt before it
  abbrev pub NeverOlder : List (WriterEvent T) → ℕ → List (ReaderEvent T) → Type 0
  NeverOlder ws low [] = Unit {0}
  NeverOlder ws low (Load n x ∷ es) = (low ≤ n) × NeverOlder ws n es
  NeverOlder ws low (reads.Learn c ∷ es) = NeverOlder ws (max low (stored_by ws c)) es

  -- the last value stored, or x
  abbrev pub last_of : T → List (WriterEvent T) → T
  last_of x [] = x
  last_of x (Store y ∷ ws) = last_of y ws
  last_of x (writes.Learn c ∷ ws) = last_of x ws

  -- how many values were stored
  abbrev pub stores : List (WriterEvent T) → ℕ
  stores [] = 0
  stores (Store y ∷ ws) = suc (stores ws)
  stores (writes.Learn c ∷ ws) = stores ws
