use Rattle.std.proofs.Common.{◌≡◌, All, Option}
use Rattle.af_stateq.specs.OneHand.{CallFits}
use Rattle.af_queue_tests.proofs.queue_hand_tests.calls_of.Given as goal

abbrev pub invariant-loop-told : goal.invariant-loop-told
invariant-loop-told l = (o : Option (Unit {0})) → All (CallFits (λ key track item. item ≡ track) o) l.calls.items
