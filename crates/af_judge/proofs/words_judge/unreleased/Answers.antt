use Rattle.std.proofs.Common.{◌<◌, length, arith}
use Rattle.af_judge.proofs.Common.{get_or_default, slice_get_within}
use Rattle.af_judge.proofs.Placed.{known_more}
use Rattle.af_judge.proofs.words_judge.unreleased.Goals as goal

pub loop-at-preserved : goal.loop-at-preserved
loop-at-preserved c = known_more c.args.released.now c.args.taken.now c.loop-at.at _ (omega arith) (get_or_default c.args.taken.now c.loop-at.at _ _ (omega arith)) c.loop-at.invariant (c.is_released.ensures.0 c.if-not-is_released.false)

pub returns-clause-ends : goal.returns-clause-ends
returns-clause-ends c = λ t got _.
    let inside : length c.args.taken.now < length c.args.taken.now = slice_get_within c.args.taken.now (length c.args.taken.now) t got in
    absurd (let x : ⊥ = omega (arith, inside) in x)
