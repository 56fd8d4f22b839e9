use Rattle.std.proofs.Common.{map, take}
use Rattle.af_journal.proofs.Common.{flat_map, take_seen}
use Rattle.af_journal.specs.Texts.{GoesOn, take_lines}
use Rattle.af_journal.proofs.turn.add_takes.Given as goal

abbrev pub invariant-loop-take : goal.invariant-loop-take
invariant-loop-take l = GoesOn l.fn.text.bytes.items (flat_map take_lines (map take_seen (take l.take-index l.takes))) l.text.bytes.items
