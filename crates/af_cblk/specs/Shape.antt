-- The sizes of a block.
use Rattle.std.specs.Prelude.{◌≡◌, ◌⊎◌, ℕ, ◌*◌, ◌/◌, ◌-◌, ◌≤◌, ◌==◌, if◌then◌else◌}
use Rattle.std.specs.Int.{IsNextPowerOfTwo}
use Rattle.af_model.specs.declared.shape.Shape.{Shape}

-- The cells are the least power of two that is not below the frames. A positional block has at most 8,192 frames, and its wrap is four times the cells
pub record IsShape (k : Shape) : Type 0 where
  pub some : 1 ≤ k.frames
  pub few : k.frames ≤ 65536
  pub cells : IsNextPowerOfTwo k.frames k.cells
  pub wrap : (k.wrap ≡ 0) ⊎ ((k.wrap ≡ k.cells * 4) × (k.frames ≤ 8192))

-- how many flushes a client may ask for: so many that no flush word wraps
abbrev pub most_flushes : ℕ → ℕ
most_flushes wrap = if wrap == 0 then 4294967294 else 4294967296 / wrap - 1
