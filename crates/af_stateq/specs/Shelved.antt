-- The rule of a state queue with items, and what each step tells.
-- The mutator holds the cell of the next state, and the shelves from a look that sees the last state acknowledged to the next push. The observer holds the cells of its state and of the one before, and from the look to the acknowledgement that of the new state and the shelves.
use Rattle.std.specs.Prelude.{◌≡◌, ◌≢◌, ℕ, suc, ◌+◌, ◌==◌, ◌&&◌, not, Bool, true, false, if◌then◌else◌, List, [], ◌∷◌, ◌++◌, length, map, drop, Option, Some, None, replicate}
use mathlib.Core.Option as maybe
use lib.ListN.{get_elem?}
use Rattle.atomic_table.specs.Table.{State, Me, Step}
use Rattle.af_base.specs.declared.state.FastState.{FastState}
use Rattle.af_base.specs.declared.state.Command.TheVariants.{Initial}
use Rattle.af_stateq.specs.declared.cell.Slot.{Slot}
use Rattle.af_stateq.specs.declared.rule.Basis.{Basis}
use Rattle.af_stateq.specs.declared.view.View.{View}
use Rattle.af_stateq.specs.declared.view.Mutating.{Mutating}
use Rattle.af_stateq.specs.declared.view.Observing.{Observing}
use Rattle.af_model.specs.declared.states.MutatorEvent.TheVariants.{Push, SawAck}
use Rattle.af_model.specs.declared.states.MutatorEvent.TheVariants as mutator
use Rattle.af_model.specs.declared.states.ObserverEvent.TheVariants.{SawNext, Ack}
use Rattle.af_model.specs.declared.states.ObserverEvent.TheVariants as observer
use Rattle.af_model.specs.Parties.{AreHeld, Stands}
pub use Rattle.af_model.specs.StateQueue.{cell, word}
use Rattle.af_model.specs.StateQueue.{slots, AreOf, AllFit, FitAt, QueuePoint, start_of_queue, legal, next, HasStateHistory}

-- how many slots of the table are cells. After them comes a shelf for each slot of a state
abbrev pub cells : ℕ
cells = 4

-- no item for any slot
abbrev pub nothing : {P : Type 0} → List (Option P)
nothing = replicate slots None

module _ {P : Type 0} where
  -- slots of the table side by side, from the number k on
  abbrev pub slots_from : ℕ → List (Slot P) → List (ℕ × Slot P)
  slots_from k [] = []
  slots_from k (x ∷ xs) = (k, x) ∷ slots_from (suc k) xs

  -- the shelves
  abbrev pub shelves : List (Slot P) → List (ℕ × Slot P)
  shelves xs = slots_from cells xs

  -- what lies on some shelves
  abbrev pub items_on : List (Slot P) → List (Option P)
  items_on xs = map (λ x. x.item) xs

abbrev pub no_state : FastState
no_state = record { slots = []; mask = 0; tracks_gen = 0; frames = 0; command = Initial; cold_gen = 0 }

module _ {P K : Type 0} where
  abbrev pub starting : Basis K → View P K
  starting b = record {
    mutates = true;
    mutating = record { key = Some b.key; first = b.first; events = []; pushed = 0; last = b.first; before = b.first; clear = true; out = false };
    observes = true;
    observing = record { key = Some b.key; events = []; current = 0; state = b.first; due = false; next = b.first; out = false };
  }

  abbrev pub spent : View P K
  spent = record {
    mutates = false;
    mutating = record { key = None; first = no_state; events = []; pushed = 0; last = no_state; before = no_state; clear = false; out = false };
    observes = false;
    observing = record { key = None; events = []; current = 0; state = no_state; due = false; next = no_state; out = false };
  }

  abbrev pub has_mutating : View P K → Bool
  has_mutating v = v.mutates

  abbrev pub mutating : View P K → Mutating P K
  mutating v = v.mutating

  abbrev pub has_observing : View P K → Bool
  has_observing v = v.observes

  abbrev pub observing : View P K → Observing P K
  observing v = v.observing

module _ {P : Type 0} where
  abbrev pub IsHome : List (maybe.Option (Slot P)) → ℕ → Type 0
  IsHome homes k = (x : Slot P) × (get_elem? homes k ≡ maybe.some (maybe.some x))

  -- all the shelves lie at home with these items
  abbrev pub OnShelves : List (maybe.Option (Slot P)) → List (Option P) → Type 0
  OnShelves homes items = (xs : List (Slot P)) × (drop cells homes ≡ map maybe.some xs) × (items_on xs ≡ items)

-- where the states are: the last one pushed is acknowledged, or it lies in its cell, or the observer took it
pub data Phase : Type 0 where
  quiet : Phase
  shown : Phase
  taken : Phase

-- what the two parties know beside their events, and what their events leave that changes hands
pub record KnownQueue (P K : Type 0) : Type 0 where
  pub m_key : Option K
  pub first : FastState
  pub pushed : ℕ
  pub last : FastState
  pub before : FastState
  pub clear : Bool
  pub m_out : Bool
  pub o_key : Option K
  pub current : ℕ
  pub state : FastState
  pub due : Bool
  pub next : FastState
  pub o_out : Bool
  pub told_last : FastState
  pub told_before : FastState
  pub items : List (Option P)
  pub given : List (Option P)

module _ {P K : Type 0} where
  abbrev pub known_by : Mutating P K → Observing P K → QueuePoint P → KnownQueue P K
  known_by m o p = record {
    m_key = m.key;
    first = m.first;
    pushed = m.pushed;
    last = m.last;
    before = m.before;
    clear = m.clear;
    m_out = m.out;
    o_key = o.key;
    current = o.current;
    state = o.state;
    due = o.due;
    next = o.next;
    o_out = o.out;
    told_last = p.mutator.last;
    told_before = p.mutator.before;
    items = p.mutator.items;
    given = p.observer.given;
  }

module _ {P K : Type 0} (fits : ℕ → P → Type 0) (k : KnownQueue P K) (homes : List (maybe.Option (Slot P))) where
  abbrev pub InPhase : Phase → Type 0
  InPhase quiet = (k.current ≡ k.pushed) × (k.due ≡ false) × (k.state ≡ k.told_last) × IsHome homes (cell (k.pushed + 2)) × (k.clear ≡ false → OnShelves homes k.given × AreOf k.told_before k.told_last k.given × AllFit fits k.told_before k.given)
  InPhase shown = (k.pushed ≡ k.current + 1) × (k.due ≡ false) × (k.clear ≡ false) × (k.state ≡ k.told_before)
      × ((x : Slot P) × (get_elem? homes (cell k.pushed) ≡ maybe.some (maybe.some x)) × (x.state ≡ k.told_last)) × OnShelves homes k.items × AreOf k.told_last k.told_before k.items × AllFit fits k.told_last k.items
  InPhase taken = (k.pushed ≡ k.current + 1) × (k.due ≡ true) × (k.clear ≡ false) × (k.state ≡ k.told_before) × (k.next ≡ k.told_last)

  -- what lies at home
  pub record AreLaid : Type 0 where
    pub whole : length homes ≡ cells + slots
    pub phase : Phase
    pub in_phase : InPhase phase
    pub m_home : k.m_out ≡ false → (k.pushed ≡ 0) × (k.clear ≡ true) × IsHome homes 0 × OnShelves homes nothing
    pub o_home : k.o_out ≡ false → (k.current ≡ 0) × IsHome homes 3 × IsHome homes 2

-- what the parties know is what their events leave
pub record AreTied {P K : Type 0} (basis : Basis K) (k : KnownQueue P K) (m_count o_count : ℕ) (p : QueuePoint P) : Type 0 where
  pub keys : (k.m_key ≡ Some basis.key) × (k.o_key ≡ Some basis.key) × (k.first ≡ basis.first)
  pub counts : (p.mutator.count ≡ m_count) × (p.observer.count ≡ o_count)
  pub numbers : (p.mutator.pushed ≡ k.pushed) × (p.observer.acked ≡ k.current) × (p.observer.due ≡ (if k.due then k.pushed else 0)) × (p.mutator.clear ≡ k.clear)
  pub states : (k.last ≡ k.told_last) × (k.before ≡ k.told_before)

-- the rule: each part is with one seat, the events stand in an order that leaves what the parties know, the words name the last state pushed and the last acknowledged, and the cells and shelves lie where they are by that
pub record Kept {P K : Type 0} (fits : K → ℕ → P → Type 0) (basis : Basis K) (s : State (Slot P) (View P K)) : Type 0 where
  pub m : Mutating P K
  pub o : Observing P K
  pub seats : AreHeld has_mutating mutating has_observing observing s.views m o
  pub stands : Stands legal next (start_of_queue basis.first) m.events o.events
  pub ties : AreTied basis (known_by m o stands.point) (length m.events) (length o.events) stands.point
  pub words : s.words ≡ word m.pushed ∷ word o.current ∷ []
  pub laid : AreLaid (fits basis.key) (known_by m o stands.point) s.homes

module _ {P : Type 0} where
  -- of the slots held all the shelves come first
  abbrev pub BeginsWithShelves : List (ℕ × Slot P) → Type 0
  BeginsWithShelves held = (xs : List (Slot P)) × (cs : List (ℕ × Slot P)) × (length xs ≡ slots) × (held ≡ shelves xs ++ cs)

  -- the items and what lay on the shelves have changed places, and the shelves have come behind the other slots held
  abbrev pub AreExchanged : List (ℕ × Slot P) → List (Option P) → List (ℕ × Slot P) → List (Option P) → Type 0
  AreExchanged held items held' items' =
      (xs : List (Slot P)) (cs : List (ℕ × Slot P)) → length xs ≡ slots → held ≡ shelves xs ++ cs → (ys : List (Slot P)) × (items_on ys ≡ items) × (held' ≡ cs ++ shelves ys) × (items' ≡ items_on xs)

  abbrev pub HoldsNext : Bool → ℕ → List (ℕ × Slot P) → Type 0
  HoldsNext true n cs = (x : Slot P) × (ys : List (Slot P)) × (items_on ys ≡ nothing) × (cs ≡ (cell (n + 1), x) ∷ shelves ys)
  HoldsNext false n cs = (x : Slot P) × (cs ≡ (cell (n + 1), x) ∷ [])

  abbrev pub HoldsSeen : Bool → ℕ → List (ℕ × Slot P) → Type 0
  HoldsSeen false c cs = (x : Slot P) × (y : Slot P) × (cs ≡ (cell c, x) ∷ (cell (c + 3), y) ∷ [])
  HoldsSeen true c cs = (z : Slot P) × (x : Slot P) × (y : Slot P) × (ys : List (Slot P)) × (items_on ys ≡ nothing) × (cs ≡ (cell (c + 1), z) ∷ (cell c, x) ∷ (cell (c + 3), y) ∷ shelves ys)

abbrev pub Seated : Type 0 → Type 0 → Type 0
Seated P K = Me (Slot P) (View P K)

module _ {P K : Type 0} where
  -- the mutator's first seat takes its cell and the shelves
  abbrev pub sat_mutator : Step (Slot P) → Seated P K → ℕ → Seated P K → Type 0
  sat_mutator st me r me' = (x : Slot P) × (ys : List (Slot P)) × (items_on ys ≡ nothing) × (me' ≡ (record me.0 { mutating = record me.0.mutating { out = true } }, (0, x) ∷ shelves ys ++ me.1))

  abbrev pub sat_observer : Step (Slot P) → Seated P K → ℕ → Seated P K → Type 0
  sat_observer st me r me' = (x : Slot P) × (y : Slot P) × (me' ≡ (record me.0 { observing = record me.0.observing { out = true } }, (3, x) ∷ (2, y) ∷ me.1))

  abbrev pub saw_mutating : ℕ → List (Option P) → Bool → Mutating P K → Mutating P K
  saw_mutating a items clear m = record m { events = m.events ++ SawAck a items ∷ []; clear = clear }

  -- the mutator does not have the shelves, and the word is that of its last state
  abbrev pub brings : Mutating P K → ℕ → Bool
  brings m r = not m.clear && (r == word m.pushed)

  -- the acknowledged number a was seen; if it is first seen that it is the last pushed, the shelves were taken
  abbrev pub saw_ack : (K → ℕ → P → Type 0) → Step (Slot P) → Seated P K → ℕ → Seated P K → Type 0
  saw_ack fits st me r me' = let m = me.0.mutating in
      (a : ℕ) × (r ≡ word a) × (r ≡ word m.pushed → a ≡ m.pushed) × (r ≢ word m.pushed → a + 1 ≡ m.pushed)
      × (brings m r ≡ false → me' ≡ (record me.0 { mutating = saw_mutating a [] (r == word m.pushed) m }, me.1))
      × (brings m r ≡ true → (ys : List (Slot P)) × AreOf m.before m.last (items_on ys) × FitAt fits m.key m.before (items_on ys)
      × (me' ≡ (record me.0 { mutating = saw_mutating a (items_on ys) true m }, shelves ys ++ me.1)))
      × (m.clear ≡ true → (r == word m.pushed) ≡ true)

  abbrev pub push_mutating : FastState → List (Option P) → Mutating P K → Mutating P K
  push_mutating x items m = record m { events = m.events ++ Push (m.pushed + 1) x items ∷ []; pushed = m.pushed + 1; last = x; before = m.last; clear = false }

  abbrev pub pushed : Step (Slot P) → Seated P K → ℕ → Seated P K → Type 0
  pushed st me r me' = let m = me.0.mutating in
      (x : Slot P) (ys : List (Slot P)) (cs : List (ℕ × Slot P)) → length ys ≡ slots → me.1 ≡ (cell (m.pushed + 1), x) ∷ shelves ys ++ cs
      → (z : Slot P) × (me' ≡ (record me.0 { mutating = push_mutating x.state (items_on ys) m }, (cell (m.pushed + 2), z) ∷ cs))

  -- nothing new, or the cell of the new state was taken with the shelves
  abbrev pub saw_next : (K → ℕ → P → Type 0) → Step (Slot P) → Seated P K → ℕ → Seated P K → Type 0
  saw_next fits st me r me' = let o = me.0.observing in
      (r ≡ word o.current → me' ≡ (record me.0 { observing = record o { events = o.events ++ SawNext o.current None [] ∷ [] } }, me.1))
      × (r ≢ word o.current → (x : Slot P) × (ys : List (Slot P)) × (r ≡ word (o.current + 1)) × AreOf x.state o.state (items_on ys) × FitAt fits o.key x.state (items_on ys)
      × (me' ≡ (record me.0 { observing = record o { events = o.events ++ SawNext (o.current + 1) (Some x.state) (items_on ys) ∷ []; due = true; next = x.state } }, shelves ys ++ (cell (o.current + 1), x) ∷ me.1)))

  abbrev pub acked : Step (Slot P) → Seated P K → ℕ → Seated P K → Type 0
  acked st me r me' = let o = me.0.observing in
      (x : Slot P) (ys : List (Slot P)) (cs : List (ℕ × Slot P)) → length ys ≡ slots → me.1 ≡ (cell (o.current + 3), x) ∷ shelves ys ++ cs
      → me' ≡ (record me.0 { observing = record o { events = o.events ++ Ack (o.current + 1) (items_on ys) ∷ []; current = o.current + 1; state = o.next; due = false } }, cs)

  -- each party learns how many events the other has, and both lists have a history, before that and with it
  abbrev pub met : Step (Slot P) → Seated P K → ℕ → Seated P K → Type 0
  met st me r me' = let m = me.0.mutating in let o = me.0.observing in
      ((x : FastState) → m.first ≡ x → HasStateHistory x m.events o.events × HasStateHistory x (m.events ++ mutator.Learn (length o.events) ∷ []) (o.events ++ observer.Learn (length m.events) ∷ []))
      × (me' ≡ (
        record me.0 {
          mutating = record m { events = m.events ++ mutator.Learn (length o.events) ∷ [] };
          observing = record o { events = o.events ++ observer.Learn (length m.events) ∷ [] };
        },
        me.1,
      ))

  -- a mutator holds the cell of the next state, and the shelves if the last state was seen acknowledged
  pub record IsMutator (me : Seated P K) (n : ℕ) (clear : Bool) : Type 0 where
    pub mutates : me.0.mutates ≡ true
    pub alone : me.0.observes ≡ false
    pub out : me.0.mutating.out ≡ true
    pub number : me.0.mutating.pushed ≡ n
    pub is_clear : me.0.mutating.clear ≡ clear
    pub begins : n ≡ 0 → clear ≡ true
    pub holds : HoldsNext clear n me.1

  -- an observer holds the cells of its state and of the one before, and if it took the next one that cell and the shelves
  pub record IsObserver (me : Seated P K) (c : ℕ) (due : Bool) : Type 0 where
    pub observes : me.0.observes ≡ true
    pub alone : me.0.mutates ≡ false
    pub out : me.0.observing.out ≡ true
    pub number : me.0.observing.current ≡ c
    pub is_due : me.0.observing.due ≡ due
    pub holds : HoldsSeen due c me.1
