-- What of a journal is judged: of each round its first entries, and of its turn each track's first looks. A legal turn has 16 entries and 64 looks at a track at most, so a round of which something is left out is at fault in any case.
use Rattle.std.specs.Prelude.{◌≡◌, ℕ, ◌||◌, nat_lt, Bool, true, false, List, [], ◌∷◌, ◌++◌, length, map, take, Option, Some, None}
use Rattle.std.specs.List.{list_any}
use Rattle.std.specs.Option.{option_map}
use Rattle.af_base.specs.Turn.{TrackSeen, Turn}
use Rattle.af_model.specs.Journals.{JournalData, RoundSeen}

-- so many entries of a round, and looks at a track, are judged
abbrev pub most_judged : ℕ
most_judged = 32768

-- ## The first of each

-- the first looks at a track
abbrev pub first_looks : ℕ → TrackSeen → TrackSeen
first_looks most t = record t { looks = take most t.looks }

-- the first looks at each track of a turn
abbrev pub first_of_turn : ℕ → Turn → Turn
first_of_turn most e = record e { tracks = map (first_looks most) e.tracks }

-- a round with its first entries, and the first looks of its turn
abbrev pub first_of_round : ℕ → RoundSeen → RoundSeen
first_of_round most round = record { calls = round.calls; turn = option_map (first_of_turn most) round.turn; entries = take most round.entries }

-- a journal with the first entries of its rounds, and the first looks of their turns
abbrev pub first_of : ℕ → JournalData → JournalData
first_of most j = record { tracks = j.tracks; rounds = map (first_of_round most) j.rounds }

-- what of a journal is judged
abbrev pub judged_of : JournalData → JournalData
judged_of j = first_of most_judged j

-- ## Rounds that are at fault

-- a legal round has no more entries, and its turn no more looks at a track
abbrev pub most_entries : ℕ
most_entries = 16

abbrev pub most_looks : ℕ
most_looks = 64

-- a turn has more looks at some track than so many
abbrev pub has_more : ℕ → Option Turn → Bool
has_more looks None = false
has_more looks (Some e) = list_any (λ (t : TrackSeen). nat_lt looks (length t.looks)) e.tracks

-- a round has more entries than so many, or its turn more looks at some track
abbrev pub is_beyond : ℕ → ℕ → RoundSeen → Bool
is_beyond entries looks round = nat_lt entries (length round.entries) || has_more looks round.turn

-- the last round but one has more entries than so many, or its turn more looks at some track
pub record EndsBeyond (entries looks : ℕ) (j : JournalData) : Type 0 where
  pub before : List RoundSeen
  pub round : RoundSeen
  pub last : RoundSeen
  pub rounds_are : j.rounds ≡ before ++ round ∷ last ∷ []
  pub beyond : is_beyond entries looks round ≡ true
