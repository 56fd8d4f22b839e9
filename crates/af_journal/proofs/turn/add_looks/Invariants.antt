use Rattle.std.proofs.Common.{take}
use Rattle.af_journal.proofs.Common.{flat_map}
use Rattle.af_journal.specs.Texts.{GoesOn, look_lines}
use Rattle.af_journal.proofs.turn.add_looks.Given as goal

abbrev pub invariant-loop-look : goal.invariant-loop-look
invariant-loop-look l = GoesOn l.fn.text.bytes.items (flat_map (look_lines l.track) (take l.look-index l.looks)) l.text.bytes.items
