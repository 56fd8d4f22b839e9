-- What contracts see of a list with room that was reserved.
use Rattle.std.specs.Prelude.{ℕ, List}

-- a list: its items, and for how many it has room in all
pub record Roomy (T : Type 0) : Type 0 where
  pub items : List T
  pub room : ℕ
