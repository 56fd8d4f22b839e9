-- Words that are no names, numbers or commands.
use Rattle.std.specs.Prelude.{ℕ, ◌==◌, Bool, false, List, [], ◌∷◌}

-- a word that begins with `-`
abbrev pub begins_dash : List ℕ → Bool
begins_dash [] = false
begins_dash (c ∷ rest) = c == 45
