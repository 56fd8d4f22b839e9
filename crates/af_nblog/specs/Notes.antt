-- What a note tells of an entry of the fast mixer's log, and the words that spell it.
use Rattle.std.specs.Prelude.{ℕ, ◌+◌, ◌*◌, ◌/◌, ◌%◌, ◌^◌, nat_lt, Bool, false, List, [], ◌∷◌}
use Rattle.std.specs.List.{count_by, slice_range}
use Rattle.af_base.specs.Log.{kind_of, slots}
use Rattle.af_base.specs.declared.log.CycleEntry.{CycleEntry}
use Rattle.af_base.specs.declared.seen.Seen.{Seen}
use Rattle.af_base.specs.declared.seen.Seen.TheVariants as seen
use Rattle.af_model.specs.Reports.{is_full, is_empty}
use Rattle.af_nblog.specs.declared.entries.Note.{Note}

-- ## The note of an entry

-- a look showed fewer frames than so many
abbrev pub is_short_look : ℕ → Seen → Bool
is_short_look frames (seen.Frames count) = nat_lt count frames
is_short_look frames _ = false

-- The note of an entry at a place of the log, if a cycle has so many frames. It counts the slots but the first: those that showed frames for a whole cycle, fewer, or that no frame is there
abbrev pub note_of : ℕ → CycleEntry → ℕ → Note
note_of place entry frames =
    record {
      place = place;
      state = entry.state;
      kind = kind_of entry.cycle;
      fulls = count_by (λ slot. is_full frames slot.seen) (slice_range entry.slots 1 slots);
      partials = count_by (λ slot. is_short_look frames slot.seen) (slice_range entry.slots 1 slots);
      empties = count_by (λ slot. is_empty slot.seen) (slice_range entry.slots 1 slots);
    }

-- ## Its words

-- the halves of a number of 64 bits, and the number of two halves
abbrev pub low_half : ℕ → ℕ
low_half number = number % 2 ^ 32

abbrev pub high_half : ℕ → ℕ
high_half number = number / 2 ^ 32

abbrev pub joined : ℕ → ℕ → ℕ
joined low high = low + high * 2 ^ 32

-- the eight words of a note
abbrev pub words_of : Note → List ℕ
words_of note =
    low_half note.place
    ∷ high_half note.place
    ∷ low_half note.state
    ∷ high_half note.state
    ∷ note.kind
    ∷ note.fulls
    ∷ note.partials
    ∷ note.empties
    ∷ []

-- The notes that words spell, eight for each. Fewer at the end spell none
unfoldable pub notes_in : List ℕ → List Note
notes_in (a ∷ b ∷ c ∷ d ∷ kind ∷ fulls ∷ partials ∷ empties ∷ words) =
    record { place = joined a b; state = joined c d; kind = kind; fulls = fulls; partials = partials; empties = empties } ∷ notes_in words
notes_in _ = []
