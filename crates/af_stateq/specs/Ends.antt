-- What contracts see of the two ends.
use Rattle.std.specs.Prelude.{◌≡◌, ◌≢◌, ℕ, ◌+◌, ◌==◌, not, ◌&&◌, Bool, true, false, List, [], ◌∷◌, ◌++◌, Option, Some, None}
use Rattle.atomic_table.specs.Seated.{TableId}
use Rattle.af_base.specs.declared.state.FastState.{FastState}
use Rattle.af_model.specs.declared.states.MutatorEvent.{MutatorEvent}
use Rattle.af_model.specs.declared.states.MutatorEvent.TheVariants.{Push, SawAck}
use Rattle.af_model.specs.declared.states.ObserverEvent.{ObserverEvent}
use Rattle.af_model.specs.declared.states.ObserverEvent.TheVariants.{SawNext, Ack}
use Rattle.af_model.specs.StateQueue.{AreOf, FitAt}
use Rattle.af_stateq.specs.Shelved.{word}

-- the end that pushes: which queue it is of, the key, the number of the last state, that state and the one before, whether it was seen acknowledged, and the events
pub record Pushes (P K : Type 0) : Type 0 where
  pub queue : TableId
  pub key : Option K
  pub first : FastState
  pub number : ℕ
  pub last : FastState
  pub before : FastState
  pub clear : Bool
  pub events : List (MutatorEvent P)

-- the end that polls: which queue it is of, the key, the number of the current state, that state, whether the next one was taken, that one, and the events
pub record Polls (P K : Type 0) : Type 0 where
  pub queue : TableId
  pub key : Option K
  pub number : ℕ
  pub state : FastState
  pub due : Bool
  pub next : FastState
  pub events : List (ObserverEvent P)

module _ {P K : Type 0} where
  -- a look at ack showed the word of the acknowledged number a, and brought the items
  abbrev pub saw : ℕ → List (Option P) → Pushes P K → Pushes P K
  saw a items m = record {
    queue = m.queue;
    key = m.key;
    first = m.first;
    number = m.number;
    last = m.last;
    before = m.before;
    clear = (word a == word m.number);
    events = m.events ++ SawAck a items ∷ [];
  }

  -- items came if the last state was first seen acknowledged
  abbrev pub SawAcked : (K → ℕ → P → Type 0) → Pushes P K → List (Option P) → ℕ → Pushes P K → List (Option P) → Type 0
  SawAcked fits m before seen m' after = (a : ℕ) × (seen ≡ word a) × (seen ≡ word m.number → a ≡ m.number) × (seen ≢ word m.number → a + 1 ≡ m.number)
      × ((not m.clear && (seen == word m.number)) ≡ false → (m' ≡ saw a [] m) × (after ≡ before))
      × ((not m.clear && (seen == word m.number)) ≡ true → (m' ≡ saw a after m) × AreOf m.before m.last after × FitAt fits m.key m.before after)
      × (m.clear ≡ true → (seen == word m.number) ≡ true)

  abbrev pub pushes : FastState → List (Option P) → Pushes P K → Pushes P K
  pushes x items m = record {
    queue = m.queue;
    key = m.key;
    first = m.first;
    number = m.number + 1;
    last = x;
    before = m.last;
    clear = false;
    events = m.events ++ Push (m.number + 1) x items ∷ [];
  }

  abbrev pub looked : Polls P K → Polls P K
  looked o = record { queue = o.queue; key = o.key; number = o.number; state = o.state; due = o.due; next = o.next; events = o.events ++ SawNext o.number None [] ∷ [] }

  abbrev pub took : FastState → List (Option P) → Polls P K → Polls P K
  took x items o = record { queue = o.queue; key = o.key; number = o.number; state = o.state; due = true; next = x; events = o.events ++ SawNext (o.number + 1) (Some x) items ∷ [] }

  abbrev pub acknowledged : List (Option P) → Polls P K → Polls P K
  acknowledged items o = record { queue = o.queue; key = o.key; number = o.number + 1; state = o.next; due = false; next = o.next; events = o.events ++ Ack (o.number + 1) items ∷ [] }

  abbrev pub Looked : (K → ℕ → P → Type 0) → Polls P K → List (Option P) → Option FastState → Polls P K → List (Option P) → Type 0
  Looked fits o before None o' after = (o' ≡ looked o) × (after ≡ before)
  Looked fits o before (Some x) o' after = (o' ≡ took x after o) × AreOf x o.state after × FitAt fits o.key x after
