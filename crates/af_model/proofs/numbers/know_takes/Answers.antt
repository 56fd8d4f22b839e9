use Rattle.std.proofs.Common.{subst, arith}
use Rattle.af_model.proofs.Common.{All, All-more, NormalTake, take_all, take_seen}
use Rattle.af_model.specs.Numbers.{FitsTake}
use Rattle.af_model.proofs.numbers.know_takes.Goals as goal

pub loop-i-preserved : goal.loop-i-preserved
loop-i-preserved c = All-more (λ (t : NormalTake). FitsTake (take_seen t)) c.args.takes.now c.loop-i.i c.index-takes-i.result (omega (arith, c.loop-i-test.true, c.loop-i.auto.i-end)) c.loop-i.invariant (subst (λ (t : NormalTake). FitsTake (take_seen t)) c.index-takes-i.is c.know_take.ensures)

pub returns : goal.returns
returns c = subst (All (λ (t : NormalTake). FitsTake (take_seen t))) (take_all c.loop-i.i c.args.takes.now (omega (arith, c.loop-i-test.false, c.loop-i.auto.i-end))) c.loop-i.invariant
