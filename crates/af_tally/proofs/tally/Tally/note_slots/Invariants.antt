use Rattle.std.specs.List.{flat_map, range_with_len}
use Rattle.af_tally.specs.Summaries.{slot_looks}
use Rattle.af_tally.specs.Tallies.{Notes}
use Rattle.af_tally.proofs.tally.Tally.note_slots.Given as goal

abbrev pub invariant-loop-slot : goal.invariant-loop-slot
invariant-loop-slot l = Notes l.slot (flat_map (slot_looks l.entry l.state) (range_with_len 0 l.slot)) l.initial.self l.self
