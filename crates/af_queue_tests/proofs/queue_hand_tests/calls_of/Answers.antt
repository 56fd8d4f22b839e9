use Rattle.std.proofs.Common.{◌≡◌, ℕ, All, List, sym, subst}
use Rattle.std.proofs.lemmas.List.Elements.{All-push}
use Rattle.af_model.specs.declared.plain_calls.QueueCall.{QueueCall}
use Rattle.af_stateq.specs.OneHand.{CallFits}
use Rattle.af_queue_tests.proofs.queue_hand_tests.calls_of.Goals as goal

pub loop-told-preserved : goal.loop-told-preserved
loop-told-preserved c o =
    let fits = CallFits {P = ℕ} {K = Unit {0}} (λ key track item. item ≡ track) o in
    subst (λ (l : List (QueueCall ℕ)). All fits l) (sym c.in-Ok.ensures.items) (All-push fits c.loop-told.calls.items c.call_of.result (c.loop-told.invariant o) (c.call_of.ensures o))
