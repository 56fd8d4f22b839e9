-- What a history of a state queue says of the states, and of the item of one slot.
use Rattle.std.specs.Prelude.{◌≡◌, ℕ, ◌≤◌, ◌<◌, ◌==◌, ◌&&◌, not, if◌then◌else◌, Bool, true, false, List, [], ◌∷◌, ◌++◌, length, Option, Some, None, IfSome}
use Rattle.std.specs.List.{list_any}
use Rattle.af_base.specs.declared.state.FastState.{FastState}
use Rattle.af_model.specs.declared.states.MutatorEvent.{MutatorEvent}
use Rattle.af_model.specs.declared.states.MutatorEvent.TheVariants.{Push, SawAck}
use Rattle.af_model.specs.declared.states.MutatorEvent.TheVariants as mutator
use Rattle.af_model.specs.declared.states.ObserverEvent.{ObserverEvent}
use Rattle.af_model.specs.declared.states.ObserverEvent.TheVariants.{SawNext, Ack}
use Rattle.af_model.specs.declared.states.ObserverEvent.TheVariants as observer
use Rattle.af_model.specs.Order.{Event, one, two, Legal}
use Rattle.af_model.specs.StateQueue.{slots, carries, mutated, observed, HasStateHistory}
use Rattle.af_stateq.specs.Mutates.{at}

module _ {P : Type 0} where
  -- the states pushed
  abbrev pub pushed_states : List (MutatorEvent P) → List FastState
  pushed_states [] = []
  pushed_states (Push k x items ∷ es) = x ∷ pushed_states es
  pushed_states (SawAck a items ∷ es) = pushed_states es
  pushed_states (mutator.Learn c ∷ es) = pushed_states es

  -- the states polled: those acknowledged, each the one taken last, y if none was
  abbrev pub polled_states : FastState → List (ObserverEvent P) → List FastState
  polled_states y [] = []
  polled_states y (SawNext k (Some x) items ∷ es) = polled_states x es
  polled_states y (SawNext k None items ∷ es) = polled_states y es
  polled_states y (Ack k items ∷ es) = y ∷ polled_states y es
  polled_states y (observer.Learn c ∷ es) = polled_states y es

  -- whether an event is a push, an acknowledgement
  abbrev pub is_push : MutatorEvent P → Bool
  is_push (Push k x items) = true
  is_push _ = false

  abbrev pub is_ack : ObserverEvent P → Bool
  is_ack (Ack k items) = true
  is_ack _ = false

  -- If the observer learnt of the events `told`, and the mutator pushed nothing after them, the next look finds the number of the last push, and if it shows a state it shows that one, with the items that it carried
  abbrev pub SeesTheLast : FastState → List (MutatorEvent P) → Type 0
  SeesTheLast first ms =
      (told more : List (MutatorEvent P)) (os rest : List (ObserverEvent P)) (c n : ℕ) (x : Option FastState) (items : List (Option P)) → HasStateHistory first ms ((os ++ observer.Learn c ∷ []) ++ SawNext n x items ∷ rest) → ms ≡ told ++ more → length told ≤ c → list_any is_push more ≡ false
      → (n ≡ (mutated first ms).pushed) × IfSome x (λ s. (s ≡ (mutated first ms).last) × (items ≡ (mutated first ms).items))

  -- If the mutator learnt of the events `told`, and the observer acknowledged nothing after them, the next look at the acknowledgement finds the number of the last one, and brings the items given back with it if they are those of the last push and weren't brought before
  abbrev pub SeesTheAck : FastState → List (ObserverEvent P) → Type 0
  SeesTheAck first os =
      (told more : List (ObserverEvent P)) (ms rest : List (MutatorEvent P)) (c a : ℕ) (items : List (Option P)) → HasStateHistory first ((ms ++ mutator.Learn c ∷ []) ++ SawAck a items ∷ rest) os → os ≡ told ++ more → length told ≤ c → list_any is_ack more ≡ false
      → (a ≡ (observed os).acked) × (items ≡ (if not (mutated first ms).clear && (a == (mutated first ms).pushed) then (observed os).given else []))

  -- the states polled are a prefix of the states pushed, and at most one is missing
  abbrev pub PolledInOrder : FastState → List (MutatorEvent P) → List (ObserverEvent P) → Type 0
  PolledInOrder first ms os = (missing : List FastState) × (length missing ≤ 1) × (pushed_states ms ≡ polled_states first os ++ missing)

-- who holds the item of one slot: the mutator, or the shelf on its way to the observer, or the observer, or the shelf on its way back
pub data Holder (P : Type 0) : Type 0 where
  in_hand : Holder P
  going : P → Holder P
  held : Holder P
  coming : P → Holder P

-- an item that is there goes to the next holder, and else the holder stays
abbrev pub given_to : {P : Type 0} → (P → Holder P) → Option P → Holder P → Holder P
given_to to None h = h
given_to to (Some p) h = to p

module _ {P : Type 0} (i : ℕ) where
  -- an event passes the slot's item on only if its holder has it, and what is taken off a shelf is what was put there
  abbrev pub may_pass : Holder P → Event (MutatorEvent P) (ObserverEvent P) → Type 0
  may_pass h (one (Push k x items)) = (p : P) → at items i ≡ Some p → h ≡ in_hand
  may_pass h (one (SawAck a items)) = (p : P) → at items i ≡ Some p → h ≡ coming p
  may_pass h (one (mutator.Learn c)) = Unit {0}
  may_pass h (two (SawNext k x items)) = (p : P) → at items i ≡ Some p → h ≡ going p
  may_pass h (two (Ack k items)) = (p : P) → at items i ≡ Some p → h ≡ held
  may_pass h (two (observer.Learn c)) = Unit {0}

  -- who has the slot's item after an event
  abbrev pub passed : Holder P → Event (MutatorEvent P) (ObserverEvent P) → Holder P
  passed h (one (Push k x items)) = given_to going (at items i) h
  passed h (one (SawAck a items)) = given_to (λ _. in_hand) (at items i) h
  passed h (one (mutator.Learn c)) = h
  passed h (two (SawNext k x items)) = given_to (λ _. held) (at items i) h
  passed h (two (Ack k items)) = given_to coming (at items i) h
  passed h (two (observer.Learn c)) = h

-- in the order of a history the item of each slot has one holder at each moment, and goes from the mutator to the shelf, to the observer, to the shelf and back
abbrev pub OneHolder : {P : Type 0} → FastState → List (MutatorEvent P) → List (ObserverEvent P) → Type 0
OneHolder first ms os = (h : HasStateHistory first ms os) (i : ℕ) → i < slots → carries first i ≡ false → Legal (may_pass i) (passed i) in_hand h.order
