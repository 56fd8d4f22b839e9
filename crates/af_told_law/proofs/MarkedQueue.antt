-- A history of the queue is one of its events with their items marked.
use Rattle.std.proofs.Common.{◌≡◌, ℕ, zero, suc, ◌==◌, ◌&&◌, not, Bool, true, false, if◌then◌else◌, map, List, [], ◌∷◌, Option, Some, None, refl, ap, ◌∙◌, subst}
use Rattle.af_told_law.proofs.Common.{AreOf, Event, FastState, HasStateHistory, Item, Legal, MutatorEvent, MutatorPoint, ObserverEvent, ObserverPoint, QueuePoint, ServerState, has, legal, length-map, marked, marked_event, next, one, ones, option_map, start_of_queue, two, twos}
use Rattle.af_model.specs.declared.states.MutatorEvent.TheVariants as mutator
use Rattle.af_model.specs.declared.states.ObserverEvent.TheVariants as observer
use Rattle.af_told_law.specs.Tells.{marked_poll}

abbrev Items : Type 0
Items = List (Option ServerState)

abbrev Real : Type 0
Real = Event (MutatorEvent ServerState) (ObserverEvent ServerState)

abbrev marked_mutator : MutatorPoint ServerState → MutatorPoint Item
marked_mutator m = record { pushed = m.pushed; last = m.last; before = m.before; items = marked m.items; clear = m.clear; count = m.count }

abbrev marked_observer : ObserverPoint ServerState → ObserverPoint Item
marked_observer o = record { acked = o.acked; due = o.due; given = marked o.given; count = o.count }

abbrev marked_point : QueuePoint ServerState → QueuePoint Item
marked_point p = record { mutator = marked_mutator p.mutator; observer = marked_observer p.observer }

abbrev marked_both : Real → Event (MutatorEvent Item) (ObserverEvent Item)
marked_both (one e) = one (marked_event e)
marked_both (two e) = two (marked_poll e)

-- a marked item stands exactly if the item did
pub has_marked : (items : Items) (i : ℕ) → has (marked items) i ≡ has items i
has_marked [] i = refl
has_marked (None ∷ items) zero = refl
has_marked (Some s ∷ items) zero = refl
has_marked (item ∷ items) (suc i) = has_marked items i

are_marked : (x y : FastState) (items : Items) → AreOf x y items → AreOf x y (marked items)
are_marked x y items h = (length-map items (option_map (λ (s : ServerState). tt)) ∙ h.0, (λ i low. has_marked items i ∙ h.1 i low), h.2, h.3)

marked_if : (b : Bool) (items : Items) → marked (if b then items else []) ≡ (if b then marked items else [])
marked_if true items = refl
marked_if false items = refl

marked_unless : (b : Bool) (items : Items) → marked (if b then [] else items) ≡ (if b then [] else marked items)
marked_unless true items = refl
marked_unless false items = refl

legal_marked : (p : QueuePoint ServerState) (e : Real) → legal p e → legal (marked_point p) (marked_both e)
legal_marked p (one (mutator.Push k x items)) l = (l.0, l.1, l.2, are_marked x p.mutator.last items l.3)
legal_marked p (one (mutator.SawAck a items)) l = (l.0, ap marked l.1 ∙ marked_if (not p.mutator.clear && (p.observer.acked == p.mutator.pushed)) p.observer.given)
legal_marked p (one (mutator.Learn c)) l = l
legal_marked p (two (observer.SawNext k x items)) l = (l.0, l.1, ap marked l.2 ∙ marked_unless (k == p.observer.acked) p.mutator.items, l.3)
legal_marked p (two (observer.Ack k items)) l = (l.0, l.1, are_marked p.mutator.before p.mutator.last items l.2)
legal_marked p (two (observer.Learn c)) l = l

next_marked : (p : QueuePoint ServerState) (e : Real) → marked_point (next p e) ≡ next (marked_point p) (marked_both e)
next_marked p (one (mutator.Push k x items)) = refl
next_marked p (one (mutator.SawAck a items)) = refl
next_marked p (one (mutator.Learn c)) = refl
next_marked p (two (observer.SawNext k x items)) = refl
next_marked p (two (observer.Ack k items)) = refl
next_marked p (two (observer.Learn c)) = refl

legal_all : (p : QueuePoint ServerState) (es : List Real) → Legal legal next p es → Legal legal next (marked_point p) (map marked_both es)
legal_all p [] l = tt
legal_all p (e ∷ es) l = (legal_marked p e l.0, subst (λ (q : QueuePoint Item). Legal legal next q (map marked_both es)) (next_marked p e) (legal_all (next p e) es l.1))

ones_marked : (es : List Real) → ones (map marked_both es) ≡ map marked_event (ones es)
ones_marked [] = refl
ones_marked (one e ∷ es) = ap (λ (l : List (MutatorEvent Item)). marked_event e ∷ l) (ones_marked es)
ones_marked (two e ∷ es) = ones_marked es

twos_marked : (es : List Real) → twos (map marked_both es) ≡ map marked_poll (twos es)
twos_marked [] = refl
twos_marked (one e ∷ es) = twos_marked es
twos_marked (two e ∷ es) = ap (λ (l : List (ObserverEvent Item)). marked_poll e ∷ l) (twos_marked es)

pub history_marked : (first : FastState) (ms : List (MutatorEvent ServerState)) (os : List (ObserverEvent ServerState)) → HasStateHistory first ms os → HasStateHistory first (map marked_event ms) (map marked_poll os)
history_marked first ms os h = record {
  order = map marked_both h.order;
  is_legal = legal_all (start_of_queue first) h.order h.is_legal;
  of_one = ones_marked h.order ∙ ap (map marked_event) h.of_one;
  of_two = twos_marked h.order ∙ ap (map marked_poll) h.of_two;
}
