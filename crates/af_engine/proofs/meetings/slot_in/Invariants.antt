use Rattle.std.proofs.Common.{◌≡◌, None}
use Rattle.af_engine.proofs.Common.{slot_below}
use Rattle.af_engine.proofs.meetings.slot_in.Given as goal

abbrev pub invariant-loop-slot : goal.invariant-loop-slot
invariant-loop-slot l = slot_below l.state l.track l.slot ≡ None
