use Rattle.af_stateq.proofs.Common.{new_queue}
use Rattle.af_stateq.proofs.NewEnds.{new_agree}
use Rattle.af_stateq.proofs.one_hand.answer_from_start.Goals as goal

pub returns : goal.returns
returns g c =
    let e = c.in_ok-line.ensures in
    c.answer_each.ensures.answers (new_queue c.args.frames) (new_agree c.args.frames c.args.key c.in_ok-line.mutator c.in_ok-line.observer e.mutator e.observer.0)
