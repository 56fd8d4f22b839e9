use Rattle.std.proofs.Common.{◌≡◌, ap, subst, ◌∙◌}
use Rattle.af_judge.specs.Judging.{ClientJudged, MadeBy, SidesKept, sides_called}
use Rattle.af_runs.specs.Kept.{client_of}
use Rattle.af_judge.proofs.WantedNext.{call_made}
use Rattle.af_judge.proofs.turn_judge.ClientJudge.call.Goals as goal

pub returns-clause-made : goal.returns-clause-made
returns-clause-made c =
    let ops = c.args.ops.now in
    let w = c.in-Some.wanted in
    let same : c.wanted.new.self.sides ≡ c.args.self.now.sides = ap (λ (x : ClientJudged). x.sides) c.wanted.ensures.same in
    let here : c.self.inside.sides ≡ c.args.self.now.sides = ap (λ (x : ClientJudged). x.sides) c.self.view_is ∙ same in
    let Q : SidesKept → Type 0 = λ k. MadeBy k w c.args.call in
    let made : Q c.args.self.now.sides = subst Q here (c.is_made.ensures.0 c.if-not-is_made.false) in
    call_made ops c.args.file c.args.call c.args.self.now c.note.new.self (client_of ops c.wanted.new.self.client) w c.in-Some.ensures.finds made
    (c.note.ensures.sides ∙ ap (λ k. sides_called c.args.file c.args.call k) same)
    c.note.ensures.noted
