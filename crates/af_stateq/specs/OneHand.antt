-- Both ends of a queue in one hand, against the plain queue.
use Rattle.std.specs.Prelude.{◌≡◌, ℕ, ◌+◌, ◌<◌, ◌≤◌, ◌==◌, ◌&&◌, ◌||◌, not, if◌then◌else◌, Bool, true, false, List, [], ◌∷◌, ◌++◌, length, map, Option, Some, None, is_some, slice_set}
use Rattle.af_base.specs.declared.state.Push.{Push}
use Rattle.af_base.specs.Command.{code_of}
use Rattle.af_model.specs.declared.states.MutatorEvent.{MutatorEvent}
use Rattle.af_model.specs.declared.states.MutatorEvent.TheVariants as mutator
use Rattle.af_model.specs.declared.states.ObserverEvent.{ObserverEvent}
use Rattle.af_model.specs.declared.states.ObserverEvent.TheVariants as observer
use Rattle.af_model.specs.declared.plain_calls.Poll.{Poll}
use Rattle.af_model.specs.declared.plain_calls.Place.{Place}
use Rattle.af_model.specs.declared.plain_calls.Place.TheVariants.{Pending, Going, Coming}
use Rattle.af_model.specs.declared.plain_calls.Readiness.{Readiness}
use Rattle.af_model.specs.declared.plain_calls.QueueCall.{QueueCall}
use Rattle.af_model.specs.declared.plain_calls.QueueCall.TheVariants as call
use Rattle.af_model.specs.declared.plain_calls.QueueAnswer.{QueueAnswer}
use Rattle.af_model.specs.declared.plain_calls.QueueAnswer.TheVariants as answer
use Rattle.af_model.specs.StateQueue.{slots, mutated, observed}
use Rattle.af_model.specs.Draft.{attached, detached, draft_commanded}
use Rattle.af_model.specs.PlainQueue.{QueueState, place_at, is_placed, held_of, returned_of, is_allowed}
use Rattle.af_stateq.specs.Ends.{Pushes, Polls}
use Rattle.af_stateq.specs.Mutates.{Mutates, at, is_out}
use Rattle.af_stateq.specs.Observes.{Observes}
use Rattle.af_stateq.specs.Answers.{WasPushed, WasAcked, WasPolled}

module _ {P : Type 0} where
  -- the item that is attached and not pushed yet
  abbrev pub pending_of : Place P → Option P
  pending_of (Pending p) = Some p
  pending_of _ = None

  -- the item that is on its way to the observer
  abbrev pub going_of : Place P → Option P
  going_of (Going p) = Some p
  going_of _ = None

  -- the item that is on its way back
  abbrev pub coming_of : Place P → Option P
  coming_of (Coming p) = Some p
  coming_of _ = None

  -- the item of one slot stands at this place, so each holder has it exactly if the place says so
  pub record InPlace (place : Place P) (pends goes here comes back : Option P) : Type 0 where
    pub pending : pends ≡ pending_of place
    pub going : goes ≡ going_of place
    pub held : here ≡ held_of place
    pub coming : comes ≡ coming_of place
    pub returned : back ≡ returned_of place

module _ {P K : Type 0} where
  -- the items of the last push, as long as its state is not polled
  abbrev pub items_going : Pushes P K → Polls P K → List (Option P)
  items_going m o = if o.number == m.number then [] else (mutated m.first m.events).items

  -- the items given back with the last acknowledgement, as long as it is not seen
  abbrev pub items_coming : Pushes P K → Polls P K → List (Option P)
  items_coming m o = if m.clear || not (o.number == m.number) then [] else (observed o.events).given

  -- the numbers and states of the ends are those of their events, and the observer is at the last push or at the one before
  pub record AreInStep (m : Pushes P K) (o : Polls P K) : Type 0 where
    pub pushed : (mutated m.first m.events).pushed ≡ m.number
    pub last : (mutated m.first m.events).last ≡ m.last
    pub clear : (mutated m.first m.events).clear ≡ m.clear
    pub acked : (observed o.events).acked ≡ o.number
    pub level : (o.number ≤ m.number) × (m.number ≤ o.number + 1)
    pub seen : m.clear ≡ true → o.number ≡ m.number

  -- the ends are in step, and the item of each slot stands at its place
  pub record AreAt (places : List (Place P)) (m : Mutates P K) (o : Observes P K) : Type 0 where
    pub in_step : AreInStep m.past o.past
    pub whole : length places ≡ slots
    pub out : map is_placed places ≡ m.out
    pub each : (i : ℕ) → i < slots → InPlace (place_at places i) (at m.pending i) (at (items_going m.past o.past) i) (at o.items i) (at (items_coming m.past o.past) i) (at m.returned i)

  -- the plain queue that the ends are, if the items stand at these places
  abbrev pub plain_of : Mutates P K → Observes P K → List (Place P) → QueueState P
  plain_of m o places = record {
    draft = m.draft;
    dirty = m.dirty;
    editing = m.editing;
    edited = m.edited;
    pushed = m.past.number;
    last = m.past.last;
    number = o.past.number;
    current = o.current;
    previous = o.previous;
    places = places;
  }

  -- the ends are this plain queue: draft, numbers and states are its own, and each item is where it says
  abbrev pub Agrees : QueueState P → Mutates P K → Observes P K → Type 0
  Agrees q m o = (q ≡ plain_of m o q.places) × AreAt q.places m o

  -- the item of an attach fits its track
  abbrev pub CallFits : (K → ℕ → P → Type 0) → Option K → QueueCall P → Type 0
  CallFits fits o (call.Attach slot mono scale track item) = (key : K) → o ≡ Some key → fits key track item
  CallFits fits o _ = Unit {0}

  -- what decides whether a call may be made
  abbrev pub ready_of : Mutates P K → Observes P K → Readiness
  ready_of m o = record { draft = m.draft; editing = m.editing; edited = m.edited; out = m.out; pushed = m.past.number; number = o.past.number }

  -- what a call that is allowed answers and does
  abbrev pub Made : QueueCall P → Mutates P K → Observes P K → QueueAnswer P → Mutates P K → Observes P K → Type 0
  Made call.Begin m o a m' o' = (a ≡ answer.Done) × (m' ≡ record m { editing = true; edited = false }) × (o' ≡ o)
  Made (call.SetCommand c) m o a m' o' = (a ≡ answer.Done) × (m' ≡ record m { draft = draft_commanded c m.draft; edited = m.edited || not (code_of c == code_of m.draft.command) }) × (o' ≡ o)
  Made (call.Attach slot mono scale track item) m o a m' o' = (a ≡ answer.Done)
      × (m' ≡ record m { draft = attached slot mono scale track m.draft; edited = true; pending = slice_set m.pending slot (Some item); out = slice_set m.out slot true }) × (o' ≡ o)
  Made (call.Detach slot) m o a m' o' = (a ≡ answer.Done)
      × (m' ≡ record m { draft = detached slot m.draft; edited = true; pending = slice_set m.pending slot None; returned = slice_set m.returned slot (at m.pending slot) }) × (o' ≡ o)
  Made (call.End did_modify) m o a m' o' = (a ≡ answer.Done) × (m' ≡ record m { editing = false; edited = false; dirty = m.dirty || did_modify }) × (o' ≡ o)
  Made call.Push m o a m' o' = (p : Push) × (s : ℕ) × (s' : ℕ) × (a ≡ answer.Pushed p) × WasPushed m p m' s s' × (o' ≡ o)
  Made call.Acked m o a m' o' = (b : Bool) × (a ≡ answer.Acked b) × WasAcked m b m' × (o' ≡ o)
  Made (call.TakeBack slot) m o a m' o' = (a ≡ answer.TakenBack (at m.returned slot))
      × (m' ≡ record m { returned = slice_set m.returned slot None; out = slice_set m.out slot (is_out m.out slot && not (is_some (at m.returned slot))) }) × (o' ≡ o)
  Made call.Poll m o a m' o' = (p : Poll) × (s : ℕ) × (s' : ℕ) × (a ≡ answer.Polled p) × WasPolled o p o' s s' × (m' ≡ m)

  -- a call is made if it is allowed, and else given back
  pub record Tried (c : QueueCall P) (m : Mutates P K) (o : Observes P K) (a : QueueAnswer P) (m' : Mutates P K) (o' : Observes P K) : Type 0 where
    pub made : is_allowed (ready_of m o) c ≡ true → Made c m o a m' o'
    pub refused : is_allowed (ready_of m o) c ≡ false → (a ≡ answer.NotAllowed c) × (m' ≡ m) × (o' ≡ o)

  -- the last event of each end is a meeting at which it learnt of all that the other did
  pub record HaveMet (m : Pushes P K) (o : Polls P K) : Type 0 where
    pub ms : List (MutatorEvent P)
    pub os : List (ObserverEvent P)
    pub c : ℕ
    pub d : ℕ
    pub mutator : m.events ≡ ms ++ mutator.Learn d ∷ []
    pub observer : o.events ≡ os ++ observer.Learn c ∷ []
    pub mutator_knows : length os ≤ d
    pub observer_knows : length ms ≤ c

  -- the queue, the key and the first state stay
  abbrev pub SameEnds : Mutates P K → Observes P K → Mutates P K → Observes P K → Type 0
  SameEnds m o m' o' = (m'.past.queue ≡ m.past.queue) × (m'.past.key ≡ m.past.key) × (m'.past.first ≡ m.past.first) × (o'.past.queue ≡ o.past.queue)
