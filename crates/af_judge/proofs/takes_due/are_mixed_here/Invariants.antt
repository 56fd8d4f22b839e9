use Rattle.std.proofs.Common.{◌≡◌, ◌↔◌, ◌≤◌, ◌-◌, length}
use Rattle.af_judge.proofs.Common.{filter, is_mixed_here, mixed_here, range_with_len, track_at}
use Rattle.af_judge.specs.NormalChanges.{tracks_from}
use Rattle.af_judge.proofs.takes_due.are_mixed_here.Given as goal

abbrev pub invariant-loop-i : goal.invariant-loop-i
invariant-loop-i l = record {
  there : l.next ≤ length l.takes;
  left : (tracks_from l.takes 0 ≡ mixed_here l.tracks) ↔ (tracks_from l.takes l.next ≡ filter (λ i. is_mixed_here (track_at l.tracks i)) (range_with_len l.i (length l.tracks - l.i)));
}
