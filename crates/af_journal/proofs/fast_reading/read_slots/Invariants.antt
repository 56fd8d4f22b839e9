use Rattle.std.proofs.Common.{length}
use Rattle.af_journal.proofs.MixReading.{IsMixFront}
use Rattle.af_journal.proofs.fast_reading.read_slots.Given as goal

abbrev pub invariant-loop-slot : goal.invariant-loop-slot
invariant-loop-slot l = IsMixFront l.state (length l.initial.frames.items) l.slot l.initial.frames.items l.frames.items l.initial.left.rest.now l.left.rest.now l.entry
