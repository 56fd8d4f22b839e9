-- The steps of cycles, each with those of its note.
use Rattle.std.specs.Prelude.{ℕ, List, [], ◌∷◌}

-- the steps of the last cycle have these of its note
abbrev pub with_note : ℕ → List (ℕ × ℕ) → List (ℕ × ℕ)
with_note steps [] = []
with_note steps (last ∷ []) = (last.0, steps) ∷ []
with_note steps (one ∷ more ∷ rest) = one ∷ with_note steps (more ∷ rest)
