use Rattle.std.proofs.Common.{◌≡◌, take}
use Rattle.af_journal.proofs.Common.{flat_map}
use Rattle.af_journal.specs.Texts.{round_lines, text_of_lines}
use Rattle.af_journal.proofs.writing.text_of.Given as goal

abbrev pub invariant-loop-round : goal.invariant-loop-round
invariant-loop-round l = l.text.bytes.items ≡ text_of_lines (flat_map round_lines (take l.round l.journal.rounds))
