use Rattle.std.proofs.Common.{map, length, arith}
use Rattle.af_model.proofs.Common.{fill_by_all, mixed_frame, silence, take_of}
use Rattle.af_model.proofs.mixing.mix_plainly.Goals as goal

pub returns : goal.returns
returns c = fill_by_all (mixed_frame (map take_of c.args.parts.now)) c.loop-at.out (length c.args.out.now) silence (omega arith) (λ k inside. c.loop-at.invariant k (omega arith))
