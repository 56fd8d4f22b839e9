use Rattle.std.proofs.Common.{suc, subst, arith}
use Rattle.af_stateq.specs.Mutates.{Mutates}
use Rattle.af_stateq.specs.Answers.{WasAcked, SeesIt}
use Rattle.af_stateq.proofs.Waiting.{one_more}
use Rattle.af_stateq.proofs.mutator.Mutator.push_until_acked.Goals as goal

pub loop-preserved : goal.loop-preserved
loop-preserved g c =
    let i = c.loop.invariant in
    let w = subst (λ b. WasAcked c.loop.self b c.acked.new.self) c.if-acked.false c.acked.ensures.answer in (
      i.0,
      i.1,
      i.2,
      (suc i.3.0, one_more i.0 i.3.0 w.0 c.loop.self c.acked.new.self i.3.1 w.1, (let s = c.acked.ensures.steps in let t = i.3.2 in omega arith)),
    )

pub returns-then-acked-clause-answer : goal.returns-then-acked-clause-answer
returns-then-acked-clause-answer g c =
    let i = c.loop.invariant in
    let w = subst (λ b. WasAcked c.loop.self b c.acked.new.self) c.if-acked.true c.acked.ensures.answer in (
      i.0,
      i.1,
      i.2,
      (i.3.0, subst (λ (z : Mutates g.row.P.Denot g.row.N-Key.Denot). SeesIt z c.acked.new.self) i.3.1 w, (let s = c.acked.ensures.steps in let t = i.3.2 in omega arith)),
    )
