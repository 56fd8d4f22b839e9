use Rattle.af_stateq.proofs.OneHand.{call_answers, meeting_agrees}
use Rattle.af_stateq.proofs.Told.{order_learns}
use Rattle.af_stateq.proofs.one_hand.answer_one.Goals as goal

pub returns-clause-answer : goal.returns-clause-answer
returns-clause-answer g c q agrees =
    let t = c.try_call-answer in
    let r = call_answers g.N.Fits.fits q c.args.call c.args.mutator.now c.args.observer.now t.result t.new.mutator t.new.observer agrees t.ensures.draft c.requires.met t.ensures.tried c.meet.ensures.before in
    (r.0, meeting_agrees _ t.new.mutator t.new.observer c.meet.new.mutator c.meet.new.observer _ _ r.1 c.meet.ensures.mutator c.meet.ensures.observer)

pub returns-clause-order : goal.returns-clause-order
returns-clause-order g c = order_learns g.N.Fits.fits c.try_call-answer.new.observer c.meet.new.observer _ c.try_call-answer.ensures.order c.meet.ensures.observer
