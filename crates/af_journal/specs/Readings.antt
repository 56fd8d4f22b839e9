-- A text has a reading if it is that of a journal, and else a first bad line.
use Rattle.std.specs.Prelude.{◌≡◌, ℕ, ◌+◌, ◌<◌, ◌≤◌, ◌==◌, Bool, false, if◌then◌else◌, List, [], ◌∷◌, ◌++◌, take, length, flat_map, Option, Some, None}
use Rattle.std.specs.List.{slice_split}
use Rattle.af_model.specs.Journals.{JournalData}
use Rattle.af_model.specs.JournalForm.{IsJournal}
use Rattle.af_journal.specs.declared.building.JournalFault.{JournalFault}
use Rattle.af_journal.specs.declared.building.JournalFault.TheVariants as fault
use Rattle.af_journal.specs.declared.stage.Stage.{Stage}
use Rattle.af_journal.specs.Lines.{with_lf}
use Rattle.af_journal.specs.LineReading.{◌>>=◌, written_at}
use Rattle.af_journal.specs.Stages.{after_written, may_end}
use Rattle.af_journal.specs.Texts.{text_of}

-- a journal of so many tracks; the numbers of its lines fit them (proofs/Fitting)
pub record CanBeWritten (tracks : ℕ) (j : JournalData) : Type 0 where
  pub tracks_are : j.tracks ≡ tracks
  pub form : IsJournal j

-- the text has this reading
abbrev pub Reads : ℕ → List ℕ → JournalData → Type 0
Reads tracks text j = CanBeWritten tracks j × (text ≡ text_of j)

-- the text has a reading
abbrev pub HasReading : ℕ → List ℕ → Type 0
HasReading tracks text = (j : JournalData) × Reads tracks text j

-- the text is read as this journal, and as no other
pub record IsOneReading (tracks : ℕ) (text : List ℕ) (j : JournalData) : Type 0 where
  pub reads : Reads tracks text j
  pub only : (other : JournalData) → Reads tracks text other → other ≡ j

-- the text of a journal is read back
abbrev pub IsReadBack : JournalData → Type 0
IsReadBack j = IsJournal j → IsOneReading j.tracks (text_of j) j

-- ## The lines of a text

-- ## The first bad line

-- what stands between the LFs
abbrev pub parts_of : List ℕ → List (List ℕ)
parts_of text = slice_split (λ byte. byte == 10) text

-- the first lines, each with its LF
abbrev pub first_lines : ℕ → List ℕ → List ℕ
first_lines n text = flat_map with_lf (take n (parts_of text))

-- The text isn't right. A right text begins with all lines before that number, counted from 1, and none with the line of that number too. It may be the last line, without its LF; or, if a further line is due, the number after the last
pub record IsFirstBad (IsRight : List ℕ → Type 0) (text : List ℕ) (number : ℕ) : Type 0 where
  pub none : IsRight text → ⊥
  pub above : (n : ℕ) → n < number → (rest : List ℕ) × IsRight (first_lines n text ++ rest)
  pub here : number < length (parts_of text) → ((rest : List ℕ) × IsRight (first_lines number text ++ rest)) → ⊥
  pub inside : (1 ≤ number) × (number ≤ length (parts_of text))

-- why a text isn't read: its first bad line if it has no reading, and else that memory ran out
abbrev pub IsFaultOf : ℕ → List ℕ → JournalFault → Type 0
IsFaultOf tracks text (fault.Line number) = IsFirstBad (HasReading tracks) text number
IsFaultOf tracks text fault.Memory = HasReading tracks text

-- ## Line by line

-- what stands before the first LF, and what after it
abbrev pub cut : List ℕ → Option (List ℕ × List ℕ)
cut [] = None
cut (c ∷ cs) = if c == 10 then Some ([], cs) else (cut cs >>= λ r. Some (c ∷ r.0, r.1))

-- the stage after a line of bytes
unfoldable pub stage_after : ℕ → Stage → List ℕ → Option Stage
stage_after tracks at part = written_at part >>= after_written tracks at

-- a text may end here: nothing stands after the last LF
abbrev pub ends : Stage → List ℕ → Bool
ends at [] = may_end at
ends at (c ∷ cs) = false

-- this line may not come, or what f finds
abbrev pub refused_or : ℕ → Option Stage → (Stage → Option ℕ) → Option ℕ
refused_or number None f = Some number
refused_or number (Some at) f = f at

-- the number of the first line that may not come after those before it
abbrev pub first_refused : ℕ → Stage → ℕ → List (List ℕ) → Option ℕ
first_refused tracks at number [] = Some number
first_refused tracks at number (part ∷ []) = if ends at part then None else Some number
first_refused tracks at number (part ∷ next ∷ parts) = refused_or number (stage_after tracks at part) (λ at. first_refused tracks at (number + 1) (next ∷ parts))
