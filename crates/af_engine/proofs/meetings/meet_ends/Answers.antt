use Rattle.std.proofs.Common.{ap, ◌∙◌}
use Rattle.af_engine.proofs.Common.{ends_met, observer_met, out_met, queue_met, writer_met}
use Rattle.af_engine.proofs.EndsMeet.{fast_order}
use Rattle.af_engine.proofs.meetings.meet_ends.Goals as goal

pub returns-clause-fast : goal.returns-clause-fast
returns-clause-fast g c =
    let m = c.args.normal.now in
    let m1 = c.meet_queue.new.self in
    let queue = c.meet_queue.ensures in
    let ends = c.meet_ends.ensures in
    let lent = c.pair.ensures.value in
    fast_order c.args.links.now m m1 c.meet_ends.new.self c.args.fast.now c.meet_queue.new.observer c.meet_ends.new.other.0 c.meet_ends.new.other.1 (queue.mutator ∙ ap (queue_met m) c.observer.ensures.value)
    (queue.observer ∙ ap (observer_met m) c.observer.ensures.value) (ends.ends ∙ (λ i. ends_met m1 (lent.0 i) (lent.1 i))) (ends.other.0 ∙ ap (writer_met m1) lent.0, ends.other.1 ∙ ap (out_met m1) lent.1) c.requires.fast
