use Rattle.std.proofs.Common.{◌≡◌, ℕ, ◌<◌, false}
use Rattle.af_judge.proofs.Common.{absent, carries, entry_slot}
use Rattle.af_judge.proofs.entry_judge.has_no_others.Given as goal

abbrev pub invariant-loop-slot : goal.invariant-loop-slot
invariant-loop-slot l = (i : ℕ) → 0 < i → i < l.slot → carries l.state i ≡ false → entry_slot l.entry i ≡ absent
