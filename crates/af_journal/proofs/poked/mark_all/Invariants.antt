use Rattle.std.proofs.Common.{◌≡◌, List, length}
use Rattle.af_journal.proofs.Common.{AllByRecursion}
use Rattle.af_journal.specs.Lines.{Written}
use Rattle.af_journal.specs.Ranges.{IsWritten}
use Rattle.af_journal.specs.Texts.{text_of_lines}
use Rattle.af_journal.proofs.MarkLines.{MarksLeft}
use Rattle.af_journal.proofs.poked.mark_all.Given as goal

abbrev pub invariant-lines : goal.invariant-lines
invariant-lines l = (ws : List Written) → AllByRecursion IsWritten ws → l.bytes ≡ text_of_lines ws → MarksLeft l.own ws l.rest l.initial.streams l.initial.commands l.streams l.commands

abbrev pub decreases-lines : goal.decreases-lines
decreases-lines l = length l.rest
