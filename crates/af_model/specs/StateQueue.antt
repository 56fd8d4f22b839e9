-- The history of a state queue: which order of pushes, looks and acknowledgements is legal, and which states and items change hands by it.
use Rattle.std.specs.Prelude.{◌≡◌, ◌≢◌, ℕ, ◌+◌, ◌%◌, ◌<◌, ◌≤◌, ◌==◌, ◌&&◌, not, if◌then◌else◌, Bool, true, false, List, [], length, fold, Option, Some, None, is_some, slice_index_or}
use Rattle.std.specs.Int.{bit_at}
use Rattle.af_base.specs.declared.state.FastState.{FastState}
use Rattle.af_base.specs.declared.state.FastTrack.{FastTrack}
pub use Rattle.af_base.specs.Log.{slots}
use Rattle.af_model.specs.declared.states.MutatorEvent.{MutatorEvent}
use Rattle.af_model.specs.declared.states.MutatorEvent.TheVariants.{Push, SawAck}
use Rattle.af_model.specs.declared.states.MutatorEvent.TheVariants as mutator
use Rattle.af_model.specs.declared.states.ObserverEvent.{ObserverEvent}
use Rattle.af_model.specs.declared.states.ObserverEvent.TheVariants.{SawNext, Ack}
use Rattle.af_model.specs.declared.states.ObserverEvent.TheVariants as observer
use Rattle.af_model.specs.Order.{Event, one, two, HasOrder}

-- the cell of the state k, also of the state 0 and, for k + 3, of the state k - 1
abbrev pub cell : ℕ → ℕ
cell k = (k + 3) % 4

-- the word of the state k
abbrev pub word : ℕ → ℕ
word k = if k == 0 then 0 else cell k + 1

abbrev pub no_fast_track : FastTrack
no_fast_track = record { generation = 0; track = 0; mono = false; scale = 0 }

-- the slot i of a state
abbrev pub slot_of : FastState → ℕ → FastTrack
slot_of x i = slice_index_or x.slots i no_fast_track

-- the slot i is active and carries an item. Slot 0, the submix, carries none
abbrev pub carries : FastState → ℕ → Bool
carries x i = not (i == 0) && (bit_at x.mask i == 1)

-- what holds of every state: it has all slots, the submix is active, and no scale is above 1
pub record IsState (x : FastState) : Type 0 where
  pub whole : length x.slots ≡ slots
  pub submix : bit_at x.mask 0 ≡ 1
  pub scaled : (i : ℕ) → i < slots → (slot_of x i).scale ≤ 4096

module _ {P : Type 0} where
  -- an item stands at i
  abbrev pub has : List (Option P) → ℕ → Bool
  has items i = is_some (slice_index_or items i None)

  -- the items are those of the slots that the state x carries and the state y doesn't. A slot that both carry is the same in both
  abbrev pub AreOf : FastState → FastState → List (Option P) → Type 0
  AreOf x y items = (length items ≡ slots) × ((i : ℕ) → i < slots → has items i ≡ (carries x i && not (carries y i))) × ((i : ℕ) → i < slots → carries x i ≡ true → carries y i ≡ true → slot_of x i ≡ slot_of y i) × IsState x

  -- each item fits the track of its slot in the state x
  abbrev pub AllFit : (ℕ → P → Type 0) → FastState → List (Option P) → Type 0
  AllFit fits x items = (i : ℕ) (p : P) → i < slots → slice_index_or items i None ≡ Some p → fits (slot_of x i).track p

module _ {P K : Type 0} where
  -- each item fits the track of its slot, at the key of an end that has one
  abbrev pub FitAt : (K → ℕ → P → Type 0) → Option K → FastState → List (Option P) → Type 0
  FitAt fits o x items = (key : K) → o ≡ Some key → AllFit (fits key) x items

-- what the mutator's events leave: the number of the last state pushed, that state and the one before it, the items that the last push carried, whether it was seen acknowledged, and how many events it had
pub record MutatorPoint (P : Type 0) : Type 0 where
  pub pushed : ℕ
  pub last : FastState
  pub before : FastState
  pub items : List (Option P)
  pub clear : Bool
  pub count : ℕ

-- what the observer's events leave: the number of the last state acknowledged, the number of the one that is to be acknowledged next, the items given back with the last acknowledgement, and how many events it had
pub record ObserverPoint (P : Type 0) : Type 0 where
  pub acked : ℕ
  pub due : ℕ
  pub given : List (Option P)
  pub count : ℕ

-- what the events of both ends leave
pub record QueuePoint (P : Type 0) : Type 0 where
  pub mutator : MutatorPoint P
  pub observer : ObserverPoint P

module _ {P : Type 0} where
  abbrev pub mutator_start : FastState → MutatorPoint P
  mutator_start x = record { pushed = 0; last = x; before = x; items = []; clear = true; count = 0 }

  abbrev pub observer_start : ObserverPoint P
  observer_start = record { acked = 0; due = 0; given = []; count = 0 }

  abbrev pub start_of_queue : FastState → QueuePoint P
  start_of_queue x = record { mutator = mutator_start x; observer = observer_start }

  abbrev pub mutator_next : MutatorPoint P → MutatorEvent P → MutatorPoint P
  mutator_next m (Push k x items) = record { pushed = k; last = x; before = m.last; items = items; clear = false; count = m.count + 1 }
  mutator_next m (SawAck a items) = record m { clear = (a == m.pushed); count = m.count + 1 }
  mutator_next m (mutator.Learn c) = record m { count = m.count + 1 }

  abbrev pub observer_next : ObserverPoint P → ObserverEvent P → ObserverPoint P
  observer_next o (SawNext k x items) = record o { due = (if k == o.acked then 0 else k); count = o.count + 1 }
  observer_next o (Ack k items) = record { acked = k; due = 0; given = items; count = o.count + 1 }
  observer_next o (observer.Learn c) = record o { due = 0; count = o.count + 1 }

  -- what the events of a mutator leave from the start
  abbrev pub mutated : FastState → List (MutatorEvent P) → MutatorPoint P
  mutated first ms = fold mutator_next (mutator_start first) ms

  -- what the events of an observer leave from the start
  abbrev pub observed : List (ObserverEvent P) → ObserverPoint P
  observed os = fold observer_next observer_start os

  -- what a look at the acknowledgement brings: the items given back, if the mutator doesn't have them yet and the last state is acknowledged
  abbrev pub brought : QueuePoint P → List (Option P)
  brought p = if not p.mutator.clear && (p.observer.acked == p.mutator.pushed) then p.observer.given else []

  -- a state follows the last one pushed, once that was acknowledged and seen so; a look sees the last number, and takes what the other end gave; an acknowledgement follows the look that took its state, with no look and no meeting of the observer between
  abbrev pub legal : QueuePoint P → Event (MutatorEvent P) (ObserverEvent P) → Type 0
  legal p (one (Push k x items)) = (k ≡ p.mutator.pushed + 1) × (p.observer.acked ≡ p.mutator.pushed) × (p.mutator.clear ≡ true) × AreOf x p.mutator.last items
  legal p (one (SawAck a items)) = (a ≡ p.observer.acked) × (items ≡ brought p)
  legal p (one (mutator.Learn c)) = c ≤ p.observer.count
  legal p (two (SawNext k x items)) = (k ≡ p.mutator.pushed) × (x ≡ (if k == p.observer.acked then None else Some p.mutator.last)) × (items ≡ (if k == p.observer.acked then [] else p.mutator.items)) × (p.observer.due ≡ 0)
  legal p (two (Ack k items)) = (k ≡ p.observer.due) × (k ≢ 0) × AreOf p.mutator.before p.mutator.last items
  legal p (two (observer.Learn c)) = (c ≤ p.mutator.count) × (p.observer.due ≡ 0)

  -- each event changes its own party's half
  abbrev pub next : QueuePoint P → Event (MutatorEvent P) (ObserverEvent P) → QueuePoint P
  next p (one e) = record { mutator = mutator_next p.mutator e; observer = p.observer }
  next p (two e) = record { mutator = p.mutator; observer = observer_next p.observer e }

  -- the two lists stand in one legal order from the first content on
  abbrev pub HasStateHistory : FastState → List (MutatorEvent P) → List (ObserverEvent P) → Type 0
  HasStateHistory first ms os = HasOrder legal next (start_of_queue first) ms os
