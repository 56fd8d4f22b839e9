-- A number in decimal, read from left to right.
use Rattle.std.specs.Prelude.{ℕ, ◌+◌, ◌-◌, ◌*◌, ◌^◌, List, [], ◌∷◌, Option, Some, None, nat_le, nat_lt, ◌&&◌, ◌==◌, if◌then◌else◌}
use Rattle.std.specs.Option.{option_and_then}

-- the digit of a code
abbrev pub digit_at : ℕ → Option ℕ
digit_at c = if nat_le 48 c && nat_le c 57 then Some (c - 48) else None

-- a number of 64 bits
abbrev pub fitting : ℕ → Option ℕ
fitting n = if nat_lt n (2 ^ 64) then Some n else None

-- the number whose digits are those of value and then these
abbrev pub digits_on : ℕ → List ℕ → Option ℕ
digits_on value [] = Some value
digits_on value (c ∷ cs) = option_and_then (λ d. option_and_then (λ n. digits_on n cs) (fitting (value * 10 + d))) (digit_at c)

-- the number that begins with a digit: 0 stands alone
abbrev pub after_digit : List ℕ → ℕ → Option ℕ
after_digit [] d = Some d
after_digit (c ∷ cs) d = if d == 0 then None else digits_on d (c ∷ cs)

-- the number that a word spells
abbrev pub number_at : List ℕ → Option ℕ
number_at [] = None
number_at (c ∷ cs) = option_and_then (after_digit cs) (digit_at c)
