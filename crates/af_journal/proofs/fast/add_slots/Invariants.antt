use Rattle.af_journal.proofs.Common.{flat_map, range_with_len}
use Rattle.af_journal.specs.Texts.{GoesOn}
use Rattle.af_journal.specs.Logged.{logged_slot}
use Rattle.af_journal.proofs.fast.add_slots.Given as goal

abbrev pub invariant-loop-slot : goal.invariant-loop-slot
invariant-loop-slot l = GoesOn l.fn.text.bytes.items (flat_map (logged_slot l.frames l.entry) (range_with_len 0 l.slot)) l.text.bytes.items
