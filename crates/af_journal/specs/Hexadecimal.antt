-- Hexadecimal digits, and the frames that they spell.
use Rattle.std.specs.Prelude.{◌≡◌, ℕ, ◌*◌, ◌&&◌, ◌||◌, nat_le, Bool, List, map, flat_map, take, length, All}
use Rattle.af_base.specs.declared.frame.Frame.{Frame}
use Rattle.af_base.specs.Sample.{IsFrame, packed_word}
use Rattle.af_model.specs.Numbers.{AreWords}
use Rattle.af_journal.specs.Lines.{hex_word}

-- a byte is a lower-case hexadecimal digit
abbrev pub is_hex : ℕ → Bool
is_hex c = (nat_le 48 c && nat_le c 57) || (nat_le 97 c && nat_le c 102)

-- the first of these digits, so many, spell the packed words of these frames
pub record AreSpelled (n : ℕ) (digits : List ℕ) (frames : List Frame) : Type 0 where
  pub words : flat_map hex_word (map packed_word frames) ≡ take n digits
  pub count : 8 * length frames ≡ n
  pub samples : All IsFrame frames
  pub fits : AreWords (map packed_word frames)
