-- How far apart two words of positions lie, and whether they fit a block.
use Rattle.std.specs.Prelude.{ℕ, ◌+◌, ◌-◌, ◌%◌, ◌^◌, nat_lt, if◌then◌else◌, Option, Some, None}
use Rattle.af_model.specs.Point.{wrapped}

-- how far the word `to` lies past the position `from`
abbrev pub ahead : ℕ → ℕ → ℕ
ahead from to = (to + (2 ^ 32 - wrapped from)) % 2 ^ 32

-- Front and rear, if rear lies more frames past front than a block has. A rear that lies before front, by their distance as a signed number of 32 bits, lies 2^31 or more past it
abbrev pub outside : ℕ → ℕ → ℕ → Option (ℕ × ℕ)
outside frames front rear = if nat_lt frames (ahead front rear) then Some (front, rear) else None
