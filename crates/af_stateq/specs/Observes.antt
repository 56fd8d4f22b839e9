-- What contracts see of the observer, and when it is in order.
use Rattle.std.specs.Prelude.{◌≡◌, ℕ, ◌-◌, ◌<◌, ◌||◌, not, if◌then◌else◌, Bool, List, [], length, Option, Some, None}
use Rattle.af_base.specs.declared.state.FastState.{FastState}
use Rattle.af_model.specs.declared.states.ObserverEvent.{ObserverEvent}
use Rattle.af_model.specs.Cycles.{state_of}
use Rattle.af_model.specs.StateQueue.{slots, carries, has, IsState, FitAt, observed}
use Rattle.af_stateq.specs.Shelved.{nothing}
use Rattle.af_stateq.specs.Ends.{Polls}
use Rattle.af_stateq.specs.Mutates.{at}
use Rattle.af_stateq.specs.Laws.{polled_states}

-- the observer: what it saw and acknowledged, the current state and the one before, and the items that it holds
pub record Observes (P K : Type 0) : Type 0 where
  pub past : Polls P K
  pub current : Option FastState
  pub previous : Option FastState
  pub items : List (Option P)

-- the number is that of the last acknowledgement among these events, and the current and the previous state are the last two polled, whatever the first state was
pub record AreTold {P : Type 0} (events : List (ObserverEvent P)) (n : ℕ) (x : FastState) (now before : Option FastState) : Type 0 where
  pub acked : (observed events).acked ≡ n
  pub counted : (first : FastState) → length (polled_states first events) ≡ n
  pub current : (first : FastState) → state_of (polled_states first events) n ≡ now
  pub previous : (first : FastState) → state_of (polled_states first events) (n - 1) ≡ before
  pub state : 0 < n → now ≡ Some x

-- the numbers and states are those that the events tell, and each item is held exactly if its slot carries one in the current state, and fits the track of its slot there
pub record InOrder {P K : Type 0} (fits : K → ℕ → P → Type 0) (o : Observes P K) : Type 0 where
  pub told : AreTold o.past.events o.past.number o.past.state o.current o.previous
  pub state : IsState o.past.state
  pub whole : length o.items ≡ slots
  pub held : (i : ℕ) → i < slots → has o.items i ≡ carries o.past.state i
  pub fit : FitAt fits o.past.key o.past.state o.items

-- the item held and the item on the shelf change places if one came for the slot, or the state x doesn't carry it
abbrev pub changes : {P : Type 0} → FastState → List (Option P) → ℕ → Bool
changes x moving i = has moving i || not (carries x i)

abbrev pub IsSettled : {P : Type 0} → FastState → List (Option P) → List (Option P) → List (Option P) → List (Option P) → ℕ → Type 0
IsSettled x items moving items' moving' i = (at items' i ≡ (if changes x moving i then at moving i else at items i)) × (at moving' i ≡ (if changes x moving i then at items i else at moving i))

-- a new observer: nothing was seen, and nothing is held
pub record IsNewObserver {P K : Type 0} (key : K) (first : FastState) (o : Observes P K) : Type 0 where
  pub has_key : o.past.key ≡ Some key
  pub begins : o.past.state ≡ first
  pub silent : (o.past.number ≡ 0) × (o.past.events ≡ [])
  pub empty : (o.current ≡ None) × (o.previous ≡ None) × (o.items ≡ nothing)
