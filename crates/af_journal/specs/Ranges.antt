-- The numbers of a line lie in the ranges of their fields, and a look shows something.
use Rattle.std.specs.Prelude.{◌<◌, ◌≤◌, ◌^◌, [], ◌∷◌}
use Rattle.af_base.specs.declared.seen.Seen.{Seen}
use Rattle.af_base.specs.declared.seen.Seen.TheVariants as seen
use Rattle.af_base.specs.Log.{slots}
use Rattle.af_model.specs.Numbers.{AreWords, FitsCall, FitsPush}
use Rattle.af_journal.specs.declared.line.Line.{Line}
use Rattle.af_journal.specs.declared.line.Line.TheVariants as line
use Rattle.af_journal.specs.Lines.{Written, numbers, words}

-- what a look showed, which is something
abbrev pub IsSeenText : Seen → Type 0
IsSeenText seen.Absent = ⊥
IsSeenText (seen.Frames count) = (1 ≤ count) × (count < 2 ^ 32)
IsSeenText seen.Empty = Unit {0}
IsSeenText (seen.Flushed dropped) = dropped < 2 ^ 32
IsSeenText (seen.Shut front rear) = AreWords (front ∷ rear ∷ [])

-- the numbers of a line
abbrev pub IsLine : Line → Type 0
IsLine line.Round = Unit {0}
IsLine (line.Client track) = track < 2 ^ 32
IsLine (line.Call answer) = FitsCall answer
IsLine (line.Turn room ack cycle) = (room < 2 ^ 32) × (cycle < 2 ^ 64)
IsLine line.Ended = Unit {0}
IsLine (line.Look track flush rear answer) = AreWords (track ∷ flush ∷ rear ∷ []) × IsSeenText answer
IsLine (line.Disabled track) = track < 2 ^ 32
IsLine (line.Status track word) = AreWords (track ∷ word ∷ [])
IsLine (line.Pushed push) = FitsPush push
IsLine (line.Take track gains flush rear answer) = AreWords (track ∷ gains ∷ flush ∷ rear ∷ []) × IsSeenText answer
IsLine line.Fast = Unit {0}
IsLine (line.Entry state kind) = (state < 2 ^ 64) × (kind < 4)
IsLine (line.Slot slot scale mono gains flush rear answer) = (slot < slots) × (scale < 2 ^ 16) × AreWords (gains ∷ flush ∷ rear ∷ []) × IsSeenText answer

-- a line has numbers in their ranges, or packed words, of which there is one at least
abbrev pub IsWritten : Written → Type 0
IsWritten (numbers l) = IsLine l
IsWritten (words []) = ⊥
IsWritten (words (w ∷ ws)) = AreWords (w ∷ ws)
