use Rattle.std.proofs.Common.{◌≡◌, ◌==◌, ◌&&◌}
use Rattle.af_judge.proofs.Common.{carries, list_any, range_with_len, slot_of}
use Rattle.af_judge.proofs.fast_judge.carries_track.Given as goal

abbrev pub invariant-loop-slot : goal.invariant-loop-slot
invariant-loop-slot l = l.found ≡ list_any (λ i. carries l.state i && ((slot_of l.state i).track == l.track)) (range_with_len 0 l.slot)
