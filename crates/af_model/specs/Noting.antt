-- What the program keeps of a round that it noted.
use Rattle.std.specs.Prelude.{◌≡◌, ℕ, ◌+◌, List, [], ◌∷◌, map, None}
use Rattle.std.specs.Option.{option_map}
use Rattle.af_base.specs.Turn.{turn_of}
use Rattle.af_model.specs.declared.journal.Round.{Round}
use Rattle.af_model.specs.Journals.{RoundNoted}

-- nothing noted
abbrev pub none_noted : RoundNoted
none_noted = record { calls = []; turn = None; cycles = 0 }

-- a round, without the place of its first entry
abbrev pub round_noted : Round → RoundNoted
round_noted r = record { calls = map (λ calls. calls.items) r.calls.items; turn = option_map turn_of r.turn; cycles = r.cycles }

-- the places of the rounds' entries follow one another, from `at` on
abbrev pub Follow : ℕ → List Round → Type 0
Follow at [] = Unit {0}
Follow at (r ∷ rs) = (r.first ≡ at) × Follow (at + r.cycles) rs
