use Rattle.std.proofs.Common.{length}
use Rattle.af_journal.specs.Beginnings.{AreRead}
use Rattle.af_journal.proofs.building.read_rounds.Given as goal

abbrev pub invariant-rounds : goal.invariant-rounds
invariant-rounds l = AreRead l.tracks l.reach l.initial.left.rest.now l.end l.noted l.taken.entries.items l.taken.frames.items l.left.rest.now

abbrev pub decreases-rounds : goal.decreases-rounds
decreases-rounds l = length l.left.rest.now
