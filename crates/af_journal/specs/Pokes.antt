-- Which blocks the lines of a text poke.
use Rattle.std.specs.Prelude.{◌≡◌, ℕ, ◌<◌, ◌==◌, ◌&&◌, ◌||◌, Bool, false, List, [], ◌∷◌, All, length, slice_index_or}
use Rattle.std.specs.List.{list_any}
use Rattle.af_base.specs.declared.event.ClientCall.{ClientCall}
use Rattle.af_runs.specs.LegalRuns.{is_poke_on}
use Rattle.af_journal.specs.declared.line.Line.{Line}
use Rattle.af_journal.specs.declared.line.Line.TheVariants as line
use Rattle.af_journal.specs.Lines.{Written, numbers, words}
use Rattle.af_model.specs.Numbers.{FitsCall}

-- whose calls follow a line, if those of `own` came before it
abbrev pub caller_after : ℕ → Line → ℕ
caller_after own (line.Client track) = track
caller_after own _ = own

-- the line is a call that pokes the command block, or else the stream block
abbrev pub is_poke_line : Bool → Line → Bool
is_poke_line commands (line.Call answer) = is_poke_on commands answer
is_poke_line commands _ = false

-- one of these lines pokes that block of a track, if the calls of `own` come first
abbrev pub pokes : Bool → ℕ → ℕ → List Written → Bool
pokes commands track own [] = false
pokes commands track own (numbers l ∷ ws) = ((own == track) && is_poke_line commands l) || pokes commands track (caller_after own l) ws
pokes commands track own (words us ∷ ws) = pokes commands track own ws

-- a line of the client `own` is noted: of the marks of all tracks that of a block that it pokes is set
pub record Notes (commands : Bool) (own : ℕ) (l : Line) (marks new_marks : List Bool) : Type 0 where
  pub many : length new_marks ≡ length marks
  pub each : (track : ℕ) → track < length marks → slice_index_or new_marks track false ≡ (slice_index_or marks track false || ((own == track) && is_poke_line commands l))

-- some lines are noted, one after the other, of which the calls of `own` come first: of the marks of all tracks those of blocks that they poke are set
pub record MarksAll (commands : Bool) (own : ℕ) (ws : List Written) (marks new_marks : List Bool) : Type 0 where
  pub many : length new_marks ≡ length marks
  pub each : (track : ℕ) → track < length marks → slice_index_or new_marks track false ≡ (slice_index_or marks track false || pokes commands track own ws)

-- the calls of so many clients, whose numbers fit, poke just these blocks
pub record PokeJust (tracks : ℕ) (poked : Bool → ℕ → Bool) (clients : List (List ClientCall)) : Type 0 where
  pub many : length clients ≡ tracks
  pub numbers : All (λ calls. All FitsCall calls) clients
  pub each : (commands : Bool) (track : ℕ) → track < tracks → list_any (is_poke_on commands) (slice_index_or clients track []) ≡ poked commands track
