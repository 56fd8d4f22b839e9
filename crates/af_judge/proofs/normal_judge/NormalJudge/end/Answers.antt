use Rattle.std.proofs.Common.{◌≡◌, true, refl, ap, ◌∙◌, sym, subst}
use Rattle.af_judge.proofs.Common.{NormalKept, Plain, Turn, ended_turn, learnt_of, turn_of}
use Rattle.af_judge.specs.NormalJudged.{NormalJudged, IsJudged}
use Rattle.af_judge.proofs.NormalKept.{rests_so, still_judged}
use Rattle.af_judge.proofs.normal_judge.NormalJudge.end.Goals as goal

-- what the turn left
left : (c : goal.After-turn) → turn_of c.args.entry.now ≡ ended_turn → c.turn.new.self.kept ≡ record c.args.self.now.plain.kept { ended = true }
left c is =
    ap (λ (p : Plain). p.kept) c.turn.ensures.turn
    ∙ rests_so c.self.inside.mixer.setup (learnt_of c.args.report.now c.args.own.now) c.self.inside.mixer.kept (turn_of c.args.entry.now) (ap (λ (e : Turn). e.ended) is)
    ∙ ap (λ (j : NormalJudged). record j.plain.kept { ended = true }) c.self.view_is

pub returns-clause-judged : goal.returns-clause-judged
returns-clause-judged c =
    let j = c.args.self.now in
    let is : turn_of c.args.entry.now ≡ ended_turn = c.if-not-is_ended_turn.ensures.0 refl in
    subst IsJudged (sym (ap (λ (x : NormalJudged). record x { plain = c.turn.new.self }) c.self.view_is))
    (still_judged j c.turn.new.self j.states j.last c.requires.judged
    (ap (λ (p : Plain). p.setup) c.turn.ensures.turn ∙ ap (λ (x : NormalJudged). x.plain.setup) c.self.view_is)
    (c.requires.judged.last ∙ sym (ap (λ (x : NormalKept). x.last) (left c is)))
    c.turn.ensures.small)

pub returns-clause-kept : goal.returns-clause-kept
returns-clause-kept c = left c
