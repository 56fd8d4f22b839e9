-- What contracts see of the two ends, and the steps of a load.
use Rattle.std.specs.Prelude.{ℕ, ◌==◌, if◌then◌else◌, List, [], ◌∷◌, Option}
use Rattle.atomic_table.specs.Seated.{TableId}
use Rattle.af_model.specs.declared.newest.WriterEvent.{WriterEvent}
use Rattle.af_model.specs.declared.newest.ReaderEvent.{ReaderEvent}
use Rattle.af_model.specs.declared.newest.ReaderEvent.TheVariants.{Load, Learn}

-- the cell that a writer stores into, that cell's first content, and the writer's events
pub record Stores (T : Type 0) : Type 0 where
  pub cell : TableId
  pub first : Option T
  pub events : List (WriterEvent T)

-- the cell that a reader loads from, and its events
pub record Loads (T : Type 0) : Type 0 where
  pub cell : TableId
  pub events : List (ReaderEvent T)

module _ {T : Type 0} where
  -- the number of the last value loaded, or n
  abbrev pub last_number : ℕ → List (ReaderEvent T) → ℕ
  last_number n [] = n
  last_number n (Load m x ∷ es) = last_number m es
  last_number n (Learn c ∷ es) = last_number n es

-- a load takes one step, and one more if it shows another value than the load before it
abbrev pub load_steps : ℕ → ℕ → ℕ
load_steps last n = if n == last then 1 else 2
