use Rattle.std.proofs.Common.{◌≡◌, ◌≢◌, ℕ, ◌+◌, ◌<◌, length, set, get_or, subst, arith, below_more, get_or-set_same, get_or-set_other}
use Rattle.af_gain.proofs.Common.{silence}
use Rattle.af_gain.specs.Narrow.{AreMixedTo}
use Rattle.af_gain.proofs.narrow.write_eight.Goals as goal

pub loop-k-preserved : goal.loop-k-preserved
loop-k-preserved c = λ takes few are was.
    let k = c.loop-k.k in
    let place = c.args.at + k in
    let frame = get_or c.mixed_eight-frames.result k silence in
    let inside : place < length c.loop-k.out = omega arith in
    let both : AreMixedTo (place + 1) takes (set c.loop-k.out place frame) =
    below_more _ _
    (λ j h. let ne : j ≢ place = omega arith in rw get_or-set_other (c.loop-k.invariant takes few are was j h))
    (rw get_or-set_same (c.mixed_eight-frames.ensures takes c.args.at few are k (omega arith))) in
    let end : place + 1 ≡ c.args.at + (k + 1) = omega arith in
    subst (λ (n : ℕ). AreMixedTo n takes (set c.loop-k.out place frame)) end both
