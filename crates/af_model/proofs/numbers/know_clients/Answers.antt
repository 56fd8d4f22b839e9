use Rattle.std.proofs.Common.{subst, arith}
use Rattle.af_model.proofs.Common.{All, All-more, take_all}
use Rattle.af_model.proofs.numbers.know_clients.Goals as goal
use Rattle.af_model.specs.Numbers.{FitsCall}

pub loop-i-preserved : goal.loop-i-preserved
loop-i-preserved c = All-more (λ calls. All FitsCall calls.items) c.args.clients.now c.loop-i.i c.index-clients-i.result (omega (arith, c.loop-i-test.true, c.loop-i.auto.i-end)) c.loop-i.invariant (subst (λ calls. All FitsCall calls.items) c.index-clients-i.is (subst (λ calls. All FitsCall calls) c.as_slice.ensures.value c.know_calls.ensures))

pub returns : goal.returns
returns c = subst (All (λ calls. All FitsCall calls.items)) (take_all c.loop-i.i c.args.clients.now (omega (arith, c.loop-i-test.false, c.loop-i.auto.i-end))) c.loop-i.invariant
