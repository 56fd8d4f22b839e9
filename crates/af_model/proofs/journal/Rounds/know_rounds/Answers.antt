use Rattle.std.proofs.Common.{◌≡◌, ◌<◌, length, subst, arith, rules}
use Rattle.af_model.proofs.Common.{All, All-more, take_all}
use Rattle.af_model.specs.Noting.{none_noted}
use Rattle.af_model.proofs.NumbersFit.{FitsNoted}
use Rattle.af_model.proofs.journal.Rounds.know_rounds.Goals as goal

pub loop-i-preserved : goal.loop-i-preserved
loop-i-preserved c =
    let inside : c.loop-i.i < length c.args.self.now.rounds = search rules in
    All-more FitsNoted c.args.self.now.rounds c.loop-i.i none_noted inside c.loop-i.invariant (subst FitsNoted c.round.ensures.noted c.know_round.ensures)

pub returns : goal.returns
returns c = subst (All FitsNoted) (take_all c.loop-i.i c.args.self.now.rounds (omega (arith, c.len-i-end.ensures, c.loop-i-test.false, c.loop-i.auto.i-end))) c.loop-i.invariant
