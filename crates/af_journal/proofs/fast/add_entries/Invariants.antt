use Rattle.std.proofs.Common.{◌∷◌, take, drop}
use Rattle.af_journal.proofs.Common.{flat_map}
use Rattle.af_journal.specs.declared.line.Line.TheVariants as line
use Rattle.af_journal.specs.Lines.{numbers}
use Rattle.af_journal.specs.Texts.{GoesOn}
use Rattle.af_journal.specs.Logged.{logged_entry}
use Rattle.af_journal.proofs.fast.add_entries.Given as goal

abbrev pub invariant-loop-i : goal.invariant-loop-i
invariant-loop-i l = GoesOn l.fn.text.bytes.items (numbers line.Fast ∷ flat_map (logged_entry l.log.frames) (take l.i (drop l.first l.log.entries))) l.text.bytes.items
