use Rattle.std.proofs.Common.{◌≡◌, drop}
use Rattle.af_merges.specs.Rising.{rises_from}
use Rattle.af_merges.proofs.search.rises.Given as goal

abbrev pub invariant-loop-event : goal.invariant-loop-event
invariant-loop-event l = rises_from 0 l.hand ≡ rises_from l.low (drop l.event-index l.hand)
