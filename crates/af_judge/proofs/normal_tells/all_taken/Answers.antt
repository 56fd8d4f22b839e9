use Rattle.std.proofs.Common.{◌↔◌, ◌&&◌, IsTrue, sym, ◌∙◌, subst, List, map, take}
use Rattle.af_judge.proofs.Common.{AllByRecursion, TakeSeen, take_seen}
use Rattle.af_judge.specs.NormalTold.{AreTaken, IsRightTake}
use Rattle.af_judge.proofs.NormalTakes.{one_seen, none_yet, one_taken, one_right}
use Rattle.af_judge.proofs.normal_tells.all_taken.Goals as goal

pub loop-take-preserved : goal.loop-take-preserved
loop-take-preserved c =
    let i = c.loop-take.take-index in
    let before : List TakeSeen = map take_seen (take c.loop-take.take-index c.args.takes.now) in
    let x : TakeSeen = take_seen c.take-item.result in
    let more = one_seen c.args.takes.now c.loop-take.take-index c.take-item.result c.loop-take-test.true c.take-item.is in
    let none = none_yet c.args.takes.now c.loop-take.take-index c.take-item.result c.requires.rise c.loop-take-test.true c.take-item.is in
    record {
      many = c.in_ok-right.ensures.many ∙ c.loop-take.invariant.many;
      told = subst (λ (ts : List TakeSeen). AreTaken c.args.asked ts c.args.tracks.now c.taken.new.tracks) (sym more) (one_taken c.args.asked before x c.args.tracks.now c.loop-take.tracks c.loop-take.invariant.told c.taken.new.tracks c.in_ok-right.ensures.told);
      right = subst (λ (ts : List TakeSeen). IsTrue (c.loop-take.right && c.in_ok-right.field-0) ↔ AllByRecursion (IsRightTake c.args.asked c.args.tracks.now) ts) (sym more)
          (one_right c.args.asked before x c.args.tracks.now c.loop-take.tracks c.loop-take.invariant.told none c.loop-take.invariant.many c.loop-take.right c.in_ok-right.field-0 c.loop-take.invariant.right c.in_ok-right.ensures.right);
    }
