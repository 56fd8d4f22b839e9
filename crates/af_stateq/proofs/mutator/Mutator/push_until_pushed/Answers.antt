use Rattle.std.proofs.Common.{suc, ap, sym, ◌∙◌, subst, arith}
use Rattle.af_stateq.specs.Mutates.{Mutates}
use Rattle.af_stateq.specs.Answers.{SameDraft}
use Rattle.af_stateq.proofs.Waiting.{one_more, pushed_at_last}
use Rattle.af_stateq.proofs.mutator.Mutator.push_until_pushed.Goals as goal

pub loop-preserved : goal.loop-preserved
loop-preserved g c =
    let w = c.in-Busy.ensures.answer in
    let i = c.loop.invariant in (
      suc i.0,
      one_more c.args.self.now i.0 w.3.0 c.loop.self c.push.new.self i.1 w.3.2,
      (let s = w.4 in let t = i.2 in omega arith),
      λ _. ap (λ (z : Mutates g.row.P.Denot g.row.N-Key.Denot). z.dirty) (sym i.1) ∙ w.0,
    )

pub returns-in_default-clause-answer : goal.returns-in_default-clause-answer
returns-in_default-clause-answer g c =
    let i = c.loop.invariant in
    pushed_at_last c.args.self.now c.push.result i.0 c.loop.self c.push.new.self c.args.steps.now c.loop.steps c.push.new.steps i.1 i.2 i.3 c.push.ensures.answer c.in_default.not-Busy

pub returns-in_default-clause-same : goal.returns-in_default-clause-same
returns-in_default-clause-same g c = subst (λ (z : Mutates g.row.P.Denot g.row.N-Key.Denot). SameDraft z c.push.new.self) c.loop.invariant.1 c.push.ensures.same.0
