use Rattle.std.proofs.Common.{◌≡◌, ◌<◌, ◌∙◌, Bool, sym, subst, arith}
use Rattle.af_side_by_side.proofs.Common.{MatchBool, TurnPlayed}
use Rattle.af_normal.specs.Order.{most_turns}
use Rattle.af_normal.specs.TurnMade.{TurnMade}
use Rattle.af_normal.specs.declared.turn.Turn.{Turn as Answer}
use Rattle.af_side_by_side.proofs.side_by_side.normal_in.Goals as goal

pub returns-then-not-has_ended : goal.returns-then-not-has_ended
returns-then-not-has_ended g c =
    let was = c.args.normal.now in
    let is = c.turn.new.self in
    let few : was.turns < most_turns = (let turns = c.requires.can.few in omega arith) in
    let legal = c.turn.ensures.legal few in
    let done : TurnPlayed was is = (legal.0, legal.1, subst (λ (a : Answer). TurnMade a was is) (c.turn.ensures.answer few) (c.turn.ensures.made few)) in
    record {
      played = subst (λ (b : Bool). MatchBool b (is ≡ was) (TurnPlayed was is)) (sym (sym c.has_ended.ensures ∙ c.if-not-has_ended.true)) done;
      order = c.turn.ensures.order;
      turns = omega (arith, c.turn.ensures.turns few);
    }
