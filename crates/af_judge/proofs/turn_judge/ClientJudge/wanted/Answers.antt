use Rattle.std.proofs.Common.{sym, ◌∙◌, refl, subst, None}
use Rattle.af_judge.proofs.Common.{halted_none}
use Rattle.af_runs.specs.Kept.{client_of}
use Rattle.af_judge.specs.Judging.{ClientJudged, FindsNext}
use Rattle.af_judge.proofs.WantedNext.{finds_next}
use Rattle.af_judge.proofs.turn_judge.ClientJudge.wanted.Goals as goal

pub returns-then-is_halted-clause-finds : goal.returns-then-is_halted-clause-finds
returns-then-is_halted-clause-finds c =
    let ops = c.args.ops.now in
    let P : ClientJudged → Type 0 = λ p. FindsNext (client_of ops p.client) None (client_of ops p.client) in
    subst P c.self.view_is (halted_none (client_of ops c.self.inside.client) (sym c.is_halted.ensures ∙ c.if-is_halted.true), refl)

pub returns-clause-finds : goal.returns-clause-finds
returns-clause-finds c =
    let ops = c.args.ops.now in
    let P : ClientJudged → Type 0 = λ p. FindsNext (client_of ops p.client) c.next.result (client_of ops c.begin.new.self) in
    subst P c.self.view_is
    (finds_next c.next.result (client_of ops c.self.inside.client) (client_of ops c.begin.new.self) (c.next.ensures ops) c.begin.ensures (sym c.is_halted.ensures ∙ c.if-is_halted.false))
