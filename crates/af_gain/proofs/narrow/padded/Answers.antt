use Rattle.std.proofs.Common.{◌≢◌, ◌<◌, length, refl, arith, below_more, get_or-set_same, get_or-set_other, length-set}
use Rattle.af_gain.proofs.narrow.padded.Goals as goal

pub loop-k-preserved : goal.loop-k-preserved
loop-k-preserved c =
    let inside : c.loop-k.k < length c.loop-k.eight = omega arith in
    record {
      eight = rw length-set c.loop-k.invariant.eight;
      copied = below_more _ _
          (λ j h. let ne : j ≢ c.loop-k.k = omega arith in rw get_or-set_other (c.loop-k.invariant.copied j h))
          (rw get_or-set_same refl);
      silent = λ j h. let ne : j ≢ c.loop-k.k = omega arith in rw get_or-set_other (c.loop-k.invariant.silent j (omega arith));
    }
