use Rattle.std.proofs.Common.{◌≡◌, ◌↔◌, ℕ, map, IsTrue, ap, ◌∙◌, subst, List}
use Rattle.af_judge.proofs.Common.{AllByRecursion, Heard, Learnt, NormalTake, asked, learnt_of, take_seen, turn_of}
use Rattle.af_judge.specs.NormalJudged.{NormalJudged}
use Rattle.af_judge.specs.NormalTold.{IsRightTake}
use Rattle.af_judge.proofs.NormalRight.{right_so}
use Rattle.af_judge.proofs.normal_judge.NormalJudge.go_on.Goals as goal

pub returns-clause-right : goal.returns-clause-right
returns-clause-right c =
    let j = c.args.self.now in
    let e = turn_of c.args.entry.now in
    let k : Learnt = learnt_of c.args.report.now c.args.own.now in
    let size : c.asked.result ≡ asked j.plain.setup = c.asked.ensures ∙ ap asked (ap (λ (x : NormalJudged). x.setup) c.self.view_is ∙ c.requires.judged.setup) in
    let takes : IsTrue c.in_ok-played.played ↔ AllByRecursion (IsRightTake (asked j.plain.setup) c.tell_all.new.tracks) e.mixes =
    subst (λ (n : ℕ). IsTrue c.in_ok-played.played ↔ AllByRecursion (IsRightTake n c.tell_all.new.tracks) e.mixes) size
    (subst (λ (ts : List NormalTake). IsTrue c.in_ok-played.played ↔ AllByRecursion (IsRightTake c.asked.result c.tell_all.new.tracks) (map take_seen ts)) c.as_slice.ensures c.in_ok-played.ensures.right) in
    right_so k j.plain.kept e c.args.tracks.now c.tell_all.new.tracks c.in_ok-told.ensures.told c.in_ok-told.ensures.many j.plain.setup c.args.report.now c.in_ok-told.told c.in_ok-played.played c.in_ok-follows.follows
    (ap (λ (own : List Heard). learnt_of c.args.report.now own) c.requires.own) c.in_ok-told.ensures.right takes c.in_ok-follows.ensures.right
