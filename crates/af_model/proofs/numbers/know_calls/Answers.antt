use Rattle.std.proofs.Common.{subst, arith}
use Rattle.af_model.proofs.Common.{All, All-more, take_all}
use Rattle.af_model.specs.Numbers.{FitsCall}
use Rattle.af_model.proofs.numbers.know_calls.Goals as goal

pub loop-i-preserved : goal.loop-i-preserved
loop-i-preserved c = All-more FitsCall c.args.calls.now c.loop-i.i _ (omega (arith, c.loop-i-test.true, c.loop-i.auto.i-end)) c.loop-i.invariant c.know_call.ensures

pub returns : goal.returns
returns c = subst (All FitsCall) (take_all c.loop-i.i c.args.calls.now (omega (arith, c.loop-i-test.false, c.loop-i.auto.i-end))) c.loop-i.invariant
