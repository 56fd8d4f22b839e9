use Rattle.std.proofs.Common.{arith}
use Rattle.af_stateq.proofs.Common.{slots}
use Rattle.af_stateq.proofs.Acks.{all_none}
use Rattle.af_stateq.proofs.mutator.join.Goals as goal

pub returns-clause-empty : goal.returns-clause-empty
returns-clause-empty g c = all_none slots c.loop-i.came.items c.loop-i.invariant.1 (λ i lt. (c.loop-i.invariant.2 i (let e = c.loop-i-test.false in omega arith)).0)
