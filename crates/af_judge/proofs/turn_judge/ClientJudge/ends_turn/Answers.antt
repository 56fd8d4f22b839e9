use Rattle.std.proofs.Common.{◌∙◌, ap, false}
use Rattle.af_judge.proofs.Common.{at_next_turn}
use Rattle.af_runs.specs.Kept.{client_of}
use Rattle.af_judge.specs.Judging.{ClientJudged}
use Rattle.af_judge.proofs.turn_judge.ClientJudge.ends_turn.Goals as goal

pub returns-in-Some-clause-ends : goal.returns-in-Some-clause-ends
returns-in-Some-clause-ends c = λ none. let e = none in let f = c.in-Some.ensures.finds.0 in let x : ⊥ = cc in x

pub returns-in-None-clause-ends : goal.returns-in-None-clause-ends
returns-in-None-clause-ends c =
    let ops = c.args.ops.now in
    let f = c.in-None.ensures.finds in
    (f.0, c.end_turn.ensures ∙ (ap (λ (x : ClientJudged). at_next_turn false (client_of ops x.client)) c.self.view_is ∙ f.1), ap (λ (x : ClientJudged). x.sides) c.self.view_is ∙ ap (λ (x : ClientJudged). x.sides) c.in-None.ensures.same)
