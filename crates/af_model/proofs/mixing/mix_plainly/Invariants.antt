use Rattle.std.proofs.Common.{◌≡◌, ℕ, ◌<◌, map}
use Rattle.af_model.proofs.Common.{frame_at, mixed_frame, take_of}
use Rattle.af_model.proofs.mixing.mix_plainly.Given as goal

abbrev pub invariant-loop-at : goal.invariant-loop-at
invariant-loop-at l = (k : ℕ) → k < l.at → frame_at l.out k ≡ mixed_frame (map take_of l.parts) k
