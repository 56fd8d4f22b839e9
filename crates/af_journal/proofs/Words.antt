-- Words that lemmas alone speak of.
use Rattle.std.specs.Prelude.{◌≡◌, ℕ, true, List, [], ◌∷◌, Option, Some}
use Rattle.std.specs.List.{AllByRecursion}
use Rattle.af_journal.specs.declared.stage.Stage.{Stage}
use Rattle.af_journal.specs.declared.stage.Stage.TheVariants.{Nothing}
use Rattle.af_journal.specs.Lines.{Written}
use Rattle.af_journal.specs.LineReading.{◌>>=◌}
use Rattle.af_journal.specs.Ranges.{IsWritten}
use Rattle.af_journal.specs.Stages.{after_written, may_end}
use Rattle.af_journal.specs.Texts.{text_of_lines}

-- the stage after some lines, one after the other
abbrev pub after_all : ℕ → Stage → List Written → Option Stage
after_all tracks at [] = Some at
after_all tracks at (w ∷ ws) = after_written tracks at w >>= λ next. after_all tracks next ws

-- lines whose numbers fit, each of which may follow those before it, and of which the last may be the last
pub record AreInOrder (tracks : ℕ) (ws : List Written) : Type 0 where
  pub numbers_fit : AllByRecursion IsWritten ws
  pub last : Stage
  pub follow : after_all tracks Nothing ws ≡ Some last
  pub ends : may_end last ≡ true

-- the text is that of lines in order
abbrev pub IsInOrder : ℕ → List ℕ → Type 0
IsInOrder tracks text = (ws : List Written) × AreInOrder tracks ws × (text ≡ text_of_lines ws)
