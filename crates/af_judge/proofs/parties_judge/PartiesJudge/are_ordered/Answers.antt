use Rattle.std.proofs.Common.{◌≡◌, false, length, subst, sym}
use Rattle.af_judge.specs.Blocks.{Lists}
use Rattle.af_judge.specs.Meetings.{AreMeetings}
use Rattle.af_judge.proofs.OnlyMeetings.{answered, by_meetings}
use Rattle.af_judge.proofs.parties_judge.PartiesJudge.are_ordered.Goals as goal

pub returns-clause-order : goal.returns-clause-order
returns-clause-order c =
    let l : Lists = c.has_order.new.self in
    let h = c.self.inside.has_hand in
    let meet : h ≡ false → AreMeetings 0 (length l.client) l.hand = subst (λ (k : Lists). h ≡ false → AreMeetings 0 (length k.client) k.hand) (sym c.has_order.ensures.same) c.self.invariant in
    answered c.has_order.result _ _ (by_meetings h l.from l.client l.server l.hand meet) c.has_order.ensures.order
