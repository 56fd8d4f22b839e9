-- When a call that opens refuses.
use Rattle.std.specs.Prelude.{◌≡◌, ◌⊎◌, ℕ, ◌<◌, ◌≤◌}
use Rattle.af_ends.specs.declared.error.EndError.{EndError}
use Rattle.af_ends.specs.declared.error.EndError.TheVariants.{Argument, Memory, Dead, Corrupt, Limit}

-- a number of frames is refused as an argument exactly if it is 0 or above 8,192. For any other number the only cause is that an allocation was refused
abbrev pub RefusesSize : ℕ → EndError → Type 0
RefusesSize frames Argument = (frames ≡ 0) ⊎ (8192 < frames)
RefusesSize frames Memory = (1 ≤ frames) × (frames ≤ 8192)
RefusesSize frames Dead = ⊥
RefusesSize frames Corrupt = ⊥
RefusesSize frames Limit = ⊥
