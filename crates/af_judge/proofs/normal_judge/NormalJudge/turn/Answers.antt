use Rattle.std.proofs.Common.{◌≡◌, ◌↔◌, Bool, true, IsTrue, MatchBool, length, sym, ap, subst, arith}
use Rattle.af_judge.proofs.Common.{IfOk, Plain, ended_turn, ends_now, turn_of}
use Rattle.af_judge.specs.NormalJudged.{NormalJudged}
use Rattle.af_judge.specs.NormalTold.{RightTurn}
use Rattle.af_judge.proofs.NormalKept.{takes_so}
use Rattle.af_judge.proofs.normal_judge.NormalJudge.turn.Goals as goal

pub go_on-requires-clause-entry : goal.go_on-requires-clause-entry
go_on-requires-clause-entry c =
    let w = c.requires.judged.small.whole in let few = c.requires.judged.small.sizes.2 in let many = c.requires.tracks in
    let takes = takes_so (length c.args.tracks.now) (turn_of c.args.entry.now) c.requires.form (omega (arith, w, few, many)) in
    (c.if-entry.false, takes.0, takes.1)

pub returns-clause-right : goal.returns-clause-right
returns-clause-right c =
    let P : Plain → Type 0 = λ p. IfOk c.go_on.result (λ right. IsTrue right ↔ RightTurn p.setup c.args.report.now c.args.tracks.now p.kept (turn_of c.args.entry.now)) in
    let m = c.args.self.now.plain.kept in
    let Q : Bool → Type 0 = λ b. IfOk c.go_on.result (λ right. IsTrue right ↔ MatchBool b ((ends_now m c.args.entry.now.ack ≡ true) × (turn_of c.args.entry.now ≡ ended_turn))
    (RightTurn c.args.self.now.plain.setup c.args.report.now c.args.tracks.now m (turn_of c.args.entry.now))) in
    subst Q (sym c.if-entry.false) (subst P (ap (λ (j : NormalJudged). j.plain) c.self.view_is) c.go_on.ensures.right)
