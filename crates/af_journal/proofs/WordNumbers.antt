-- A number that is read digit by digit up to the first space.
use Rattle.std.proofs.Common.{ℕ, List, Option}
use Rattle.af_journal.specs.Digits.{digits_on}
use Rattle.af_journal.specs.LineReading.{beside, word_at}

-- the number of the word before the first space, after so much of it, and what stands from there on
abbrev pub spelled_on : ℕ → List ℕ → Option (ℕ × List ℕ)
spelled_on value bytes = beside (word_at bytes).1 (digits_on value (word_at bytes).0)
