-- How a text begins: a journal whose first rounds are what is kept of those of the text's reading, and which pokes the same blocks.
use Rattle.std.specs.Prelude.{◌≡◌, ℕ, ◌-◌, ◌≤◌, Bool, true, false, List, [], ◌∷◌, ◌++◌, All, flat_map, length, map, take, Option, None}
use Rattle.af_base.specs.declared.frame.Frame.{Frame}
use Rattle.af_base.specs.declared.log.CycleEntry.{CycleEntry}
use Rattle.af_model.specs.Journals.{EntrySeen, JournalData, RoundSeen, RoundsNoted, entries_of}
use Rattle.af_model.specs.JournalForm.{AreEntries, IsRound}
use Rattle.af_model.specs.Numbers.{FitsRound}
use Rattle.af_runs.specs.LegalRuns.{is_lawful_block, marks_of}
use Rattle.af_journal.specs.declared.reach.End.{End}
use Rattle.af_journal.specs.declared.reach.End.TheVariants as why
use Rattle.af_journal.specs.declared.reach.Reach.{Reach}
use Rattle.af_journal.specs.declared.reach.RoundRead.{RoundRead}
use Rattle.af_journal.specs.Judged.{first_of, first_of_round, is_beyond}
use Rattle.af_journal.specs.Readings.{Reads}
use Rattle.af_journal.specs.Taken.{AddsRound, AreTaken, Leaves, body_lines, noted_of}
use Rattle.af_journal.specs.Texts.{entry_lines, round_lines}

-- a journal begins as another one: all rounds but the last are its first ones, and the same blocks are poked
pub record BeginsAs (front j : JournalData) : Type 0 where
  pub first : take (length front.rounds - 1) front.rounds ≡ take (length front.rounds - 1) j.rounds
  pub marks : marks_of front.rounds ≡ marks_of j.rounds

-- a journal is the one reading of a text, if it is whole, and nothing of it was left out; else it begins as what is kept of the reading
pub record IsFrontOf (most tracks : ℕ) (text : List ℕ) (whole : Bool) (front : JournalData) : Type 0 where
  pub reading : JournalData
  pub reads : Reads tracks text reading
  pub only : (other : JournalData) → Reads tracks text other → other ≡ reading
  pub tracks_are : front.tracks ≡ tracks
  pub same : whole ≡ true → (front ≡ reading) × (first_of most reading ≡ reading)
  pub begins : whole ≡ false → BeginsAs front (first_of most reading)

-- ## Rounds that are read

-- a round more is read, and what is kept of it noted and added
pub record ReadsRound (tracks most : ℕ) (noted : RoundsNoted) (entries : List CycleEntry) (frames : List Frame) (before : List ℕ) (new_noted : RoundsNoted) (new_entries : List CycleEntry) (new_frames : List Frame) (after : List ℕ) : Type 0 where
  pub round : RoundSeen
  pub adds : AddsRound tracks noted entries frames (first_of_round most round) new_noted new_entries new_frames
  pub form : IsRound tracks round
  pub few : length round.entries ≤ most
  pub lines : Leaves before (body_lines round) after

-- the last of these rounds is the only one of which something is left out, and has more entries or looks than one that others follow
pub record LastIsBeyond (reach : Reach) (full : Bool) (rounds : List RoundSeen) : Type 0 where
  pub before : List RoundSeen
  pub last : RoundSeen
  pub are : rounds ≡ before ++ last ∷ []
  pub others : map (first_of_round reach.kept) before ≡ before
  pub few : length last.entries ≤ reach.kept
  pub full_is : full ≡ true → length last.entries ≡ reach.kept
  pub beyond : is_beyond reach.entries reach.looks (first_of_round reach.kept last) ≡ true

-- why no more rounds are read behind these
abbrev pub AreUpTo : Reach → List RoundSeen → End → Type 0
AreUpTo reach rounds why.Last = map (first_of_round reach.kept) rounds ≡ rounds
AreUpTo reach rounds why.Enough = (map (first_of_round reach.kept) rounds ≡ rounds) × (reach.cycles ≡ None → ⊥)
AreUpTo reach rounds (why.Beyond full) = LastIsBeyond reach full rounds

-- why no more rounds are read behind a round that was read
abbrev pub EndsBy : Option ℕ → RoundRead → End → Type 0
EndsBy cycles read why.Last = read.beyond ≡ false
EndsBy cycles read why.Enough = (read.beyond ≡ false) × (cycles ≡ None → ⊥)
EndsBy cycles read (why.Beyond full) = (read.beyond ≡ true) × (full ≡ read.full)

-- none is left
abbrev pub is_last : End → Bool
is_last why.Last = true
is_last why.Enough = false
is_last (why.Beyond full) = false

-- what is left may begin with entries
abbrev pub is_full : End → Bool
is_full why.Last = false
is_full why.Enough = false
is_full (why.Beyond full) = full

-- rounds were read from the front of a text, and what is kept of them noted and added
pub record AreRead (tracks : ℕ) (reach : Reach) (start : List ℕ) (at : End) (noted : RoundsNoted) (entries : List CycleEntry) (frames : List Frame) (rest : List ℕ) : Type 0 where
  pub rounds : List RoundSeen
  pub taken : AreTaken tracks (map (first_of_round reach.kept) rounds) noted entries frames
  pub form : All (IsRound tracks) rounds
  pub lines : Leaves start (flat_map round_lines rounds) rest
  pub ends : AreUpTo reach rounds at

-- ## What is left

-- one round more is noted, which has no entries, and pokes what these rounds poke
pub record PokesAsAll (tracks : ℕ) (more : List RoundSeen) (noted new_noted : RoundsNoted) : Type 0 where
  pub round : RoundSeen
  pub still : round.entries ≡ []
  pub form : IsRound tracks round
  pub numbers : FitsRound round
  pub noted_are : new_noted ≡ record noted { rounds = noted.rounds ++ noted_of round ∷ [] }
  pub marks : (commands : Bool) (track : ℕ) → is_lawful_block commands (round ∷ []) track ≡ is_lawful_block commands more track

-- what is left of a text is that of some rounds, whose first frames stand at a place, behind further entries of the round before them if that one is full. A round is noted that pokes what they poke
pub record NotesRest (tracks place : ℕ) (rest : List ℕ) (full : Bool) (noted new_noted : RoundsNoted) : Type 0 where
  pub further : List EntrySeen
  pub more : List RoundSeen
  pub form : All (IsRound tracks) more
  pub entries : AreEntries place (further ++ entries_of more)
  pub lines : Leaves rest (flat_map entry_lines further ++ flat_map round_lines more) []
  pub none : full ≡ false → further ≡ []
  pub pokes : PokesAsAll tracks more noted new_noted

-- behind the last round nothing is left, and else what is left is noted
abbrev pub NotesBy : ℕ → List ℕ → End → RoundsNoted → RoundsNoted → Type 0
NotesBy tracks rest why.Last noted new_noted = (rest ≡ []) × (new_noted ≡ noted)
NotesBy tracks rest why.Enough noted new_noted = (place : ℕ) → NotesRest tracks place rest false noted new_noted
NotesBy tracks rest (why.Beyond full) noted new_noted = (place : ℕ) → NotesRest tracks place rest full noted new_noted
