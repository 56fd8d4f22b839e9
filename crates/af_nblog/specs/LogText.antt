-- The text of a log of notes: a line for each note accepted, and a last one for how many were refused.
use Rattle.std.specs.Prelude.{ℕ, codes, decimal, List, [], ◌∷◌, ◌++◌, map, flat_map}
use Rattle.std.specs.List.{join_with_byte}
use Rattle.af_nblog.specs.declared.entries.Note.{Note}

-- the line of a note that was accepted, without its LF: its numbers, with one space between them
abbrev pub note_line : Note → List ℕ
note_line n = join_with_byte 32 (map decimal (n.place ∷ n.state ∷ n.kind ∷ n.fulls ∷ n.partials ∷ n.empties ∷ []))

-- the lines of some notes, in order, each with its LF
abbrev pub note_lines : List Note → List ℕ
note_lines notes = flat_map (λ n. note_line n ++ 10 ∷ []) notes

-- the text of a log in which these notes were accepted, and so many refused: its last line says how many
abbrev pub log_text : List Note → ℕ → List ℕ
log_text notes refused = note_lines notes ++ ((codes "refused " ++ decimal refused) ++ 10 ∷ [])
