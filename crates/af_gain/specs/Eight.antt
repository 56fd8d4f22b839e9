-- The sums of eight positions, and of sixteen.
use Rattle.std.specs.Prelude.{ℕ, ◌+◌, List}
use Rattle.af_base.specs.Mix.{Take}
use Rattle.af_gain.specs.declared.narrow.Eight.{Eight}
use Rattle.af_gain.specs.declared.narrow.Sixteen.{Sixteen}
use Rattle.af_gain.specs.Narrow.{AreLanesOf}

-- the sums of some takes at eight positions
pub record AreEightOf (takes : List Take) (at : ℕ) (sums : Eight) : Type 0 where
  pub first : AreLanesOf takes at sums.first
  pub second : AreLanesOf takes (at + 2) sums.second
  pub third : AreLanesOf takes (at + 4) sums.third
  pub fourth : AreLanesOf takes (at + 6) sums.fourth

-- the sums of some takes at sixteen positions
pub record AreSixteenOf (takes : List Take) (at : ℕ) (sums : Sixteen) : Type 0 where
  pub low : AreEightOf takes at sums.low
  pub high : AreEightOf takes (at + 8) sums.high
