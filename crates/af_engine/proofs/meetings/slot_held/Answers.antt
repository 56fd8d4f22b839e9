use Rattle.std.proofs.Common.{sym, ap, ◌∙◌}
use Rattle.af_engine.proofs.Common.{Observes, ServerState, StreamNames}
use Rattle.af_engine.proofs.MetSlots.{none_carried}
use Rattle.af_engine.proofs.meetings.slot_held.Goals as goal

pub returns-in_default-clause-slot : goal.returns-in_default-clause-slot
returns-in_default-clause-slot c =
    sym (none_carried c.args.fast.now.observer.past.state c.args.track (c.requires.order.begins (sym (ap (λ (o : Observes ServerState StreamNames). o.past.number) c.observer-observer.ensures.value) ∙ c.in_default.ensures)))
