use Rattle.std.proofs.Common.{length, map, arith}
use Rattle.af_gain.proofs.Common.{fill_by_all, mixed_frame, silence, take_of}
use Rattle.af_gain.proofs.narrow.mix_narrow.Goals as goal

pub returns : goal.returns
returns c =
    let mixed = c.mix_rest.ensures (λ k inside. c.loop-sixteen.invariant k (omega arith)) in
    fill_by_all (mixed_frame (map take_of c.args.parts.now)) c.mix_rest.new.out (length c.args.out.now) silence (omega arith) (λ k inside. mixed k (omega arith))
