use Rattle.std.proofs.Common.{◌≡◌, ◌-◌, ◌*◌, ◌≤◌, length}
use Rattle.af_offline.proofs.Rolling.{IsOn}
use Rattle.af_offline.proofs.looping.play_calls.Given as goal

abbrev pub invariant-loop-rolled : goal.invariant-loop-rolled
invariant-loop-rolled l = record {
  on : IsOn l.fn.hand (length l.fn.places) l.fn.bytes.items l.hand l.bytes.items l.rolled.cycles l.rolled.filled l.rolled.is_shut;
  places : length l.places ≡ length l.fn.places;
  most : l.rolled.cycles ≤ l.calls;
  few : l.rolled.filled ≤ 4294967295 * l.rolled.cycles;
}

abbrev pub decreases-loop-rolled : goal.decreases-loop-rolled
decreases-loop-rolled l = l.calls - l.rolled.cycles
