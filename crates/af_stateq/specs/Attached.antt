-- An attached item is with the mutator until a push carries it.
use Rattle.std.specs.Prelude.{◌≡◌, ◌⊎◌, ℕ, ◌<◌, true, List, [], ◌∷◌, ◌++◌, Option, Some}
use Rattle.af_base.specs.declared.state.FastState.{FastState}
use Rattle.af_model.specs.declared.states.MutatorEvent.{MutatorEvent}
use Rattle.af_model.specs.declared.states.MutatorEvent.TheVariants.{Push}
use Rattle.af_model.specs.declared.plain_calls.QueueCall.{QueueCall}
use Rattle.af_model.specs.declared.plain_calls.QueueAnswer.{QueueAnswer}
use Rattle.af_model.specs.StateQueue.{slots}
use Rattle.af_model.specs.PlainQueue.{is_allowed}
use Rattle.af_stateq.specs.Mutates.{Mutates, InDraft, at}
use Rattle.af_stateq.specs.Observes.{Observes}
use Rattle.af_stateq.specs.OneHand.{ready_of, Made}

module _ {P K : Type 0} where
  -- the item p of the slot i was attached, and no push carried it yet
  abbrev pub IsAttached : Mutates P K → ℕ → P → Type 0
  IsAttached m i p = at m.pending i ≡ Some p

  -- the last event is a push that carries the item p of the slot i
  abbrev pub IsCarried : Mutates P K → ℕ → P → Type 0
  IsCarried m i p = (before : List (MutatorEvent P)) × (k : ℕ) × (x : FastState) × (items : List (Option P)) × (m.past.events ≡ before ++ Push k x items ∷ []) × (at items i ≡ Some p)

  -- a call leaves an attached item where it is, or it is detached and in hand, or the call is a push that carries it
  abbrev pub StaysUntilPushed : (K → ℕ → P → Type 0) → Mutates P K → Observes P K → Type 0
  StaysUntilPushed fits m o =
      (c : QueueCall P) (a : QueueAnswer P) (m' : Mutates P K) (o' : Observes P K) (i : ℕ) (p : P) → InDraft fits m → is_allowed (ready_of m o) c ≡ true → Made c m o a m' o' → i < slots → IsAttached m i p
      → IsAttached m' i p ⊎ ((at m'.returned i ≡ Some p) ⊎ IsCarried m' i p)
