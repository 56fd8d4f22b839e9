-- A text is one of lines in order exactly if it has a reading, so the first bad line is the same by either.
use Rattle.std.proofs.Common.{ℕ, ◌++◌, ◌<◌, ◌^◌, List, Option, Some, None, IfNone, IfSome}
use Rattle.af_journal.specs.Readings.{HasReading, IsFirstBad, first_lines}
use Rattle.af_journal.proofs.Words.{IsInOrder}
use Rattle.af_journal.proofs.InOrder.{Found}
use Rattle.af_journal.proofs.JournalInOrder.{reading-in-order}
use Rattle.af_journal.proofs.JournalOf.{order-has-reading}

bad_reading : (tracks : ℕ) (text : List ℕ) (number : ℕ) → tracks < 2 ^ 32 → IsFirstBad (IsInOrder tracks) text number → IsFirstBad (HasReading tracks) text number
bad_reading tracks text number few f = record {
  none = λ r. f.none (reading-in-order tracks text r);
  above = λ n h. let b = f.above n h in (b.0, order-has-reading tracks (first_lines n text ++ b.0) few b.1);
  here = λ h b. f.here h (b.0, reading-in-order tracks (first_lines number text ++ b.0) b.1);
  inside = f.inside;
}

-- no bad line was found
pub reading_from : (tracks : ℕ) (text : List ℕ) (o : Option ℕ) → tracks < 2 ^ 32 → Found tracks text o → IfNone o (HasReading tracks text)
reading_from tracks text None few f = order-has-reading tracks text few f
reading_from tracks text (Some number) few f = tt

-- the first bad line was found
pub line_from : (tracks : ℕ) (text : List ℕ) (o : Option ℕ) → tracks < 2 ^ 32 → Found tracks text o → IfSome o (IsFirstBad (HasReading tracks) text)
line_from tracks text None few f = tt
line_from tracks text (Some number) few f = bad_reading tracks text number few f
