use Rattle.std.proofs.Common.{◌≡◌, ℕ, ◌<◌, ◌≤◌}
use Rattle.af_base.specs.Mix.{frame_at, silence}
use Rattle.af_static.proofs.playing.silence_from.Given as goal

abbrev pub invariant-loop-i : goal.invariant-loop-i
invariant-loop-i l = record {
  before : (k : ℕ) → k < l.at → frame_at l.out k ≡ frame_at l.initial.out k;
  behind : (k : ℕ) → l.at ≤ k → k < l.i → frame_at l.out k ≡ silence;
}
