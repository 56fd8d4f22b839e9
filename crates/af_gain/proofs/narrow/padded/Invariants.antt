use Rattle.std.proofs.Common.{◌≡◌, ℕ, ◌+◌, ◌<◌, ◌≤◌, length}
use Rattle.af_gain.proofs.Common.{frame_at, silence}
use Rattle.af_gain.proofs.narrow.padded.Given as goal

abbrev pub invariant-loop-k : goal.invariant-loop-k
invariant-loop-k l = record {
  eight : length l.eight ≡ 8;
  copied : (j : ℕ) → j < l.k → frame_at l.eight j ≡ frame_at l.frames (l.at + j);
  silent : (j : ℕ) → l.k ≤ j → frame_at l.eight j ≡ silence;
}
