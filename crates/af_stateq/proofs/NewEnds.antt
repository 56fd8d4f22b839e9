-- The two ends of a new queue are the new plain queue.
use Rattle.std.proofs.Common.{◌≡◌, ℕ, ◌<◌, ◌==◌, ◌||◌, not, if◌then◌else◌, List, [], Option, None, replicate, ap, sym, ◌∙◌, subst, arith}
use Rattle.af_stateq.proofs.Common.{MutatorEvent, Nowhere, ObserverEvent, Place, get_or-replicate, initial, length-replicate, mutated, new_queue, observed, slots}
use Rattle.af_stateq.specs.Mutates.{Mutates, IsNewMutator, at}
use Rattle.af_stateq.specs.Observes.{Observes, IsNewObserver}
use Rattle.af_stateq.specs.OneHand.{InPlace, AreInStep, AreAt, Agrees, items_going, items_coming}
use Rattle.af_stateq.proofs.EndEvents.{none_going}

module _ {P K : Type 0} (frames : ℕ) (key : K) (m : Mutates P K) (o : Observes P K) (n : IsNewMutator key (initial frames) m) (p : IsNewObserver key (initial frames) o) where
  same : o.past.number ≡ m.past.number
  same = p.silent.0 ∙ sym n.silent.0

  in_step : AreInStep m.past o.past
  in_step = record {
    pushed = ap (λ (l : List (MutatorEvent P)). (mutated m.past.first l).pushed) n.silent.2 ∙ sym n.silent.0;
    last = ap (λ (l : List (MutatorEvent P)). (mutated m.past.first l).last) n.silent.2 ∙ n.begins.0 ∙ sym n.begins.1;
    clear = ap (λ (l : List (MutatorEvent P)). (mutated m.past.first l).clear) n.silent.2 ∙ sym n.silent.1;
    acked = ap (λ (l : List (ObserverEvent P)). (observed l).acked) p.silent.1 ∙ sym p.silent.0;
    level = (let e = same in omega arith, let e = same in omega arith);
    seen = λ _. same;
  }

  empty_at : (l : List (Option P)) (i : ℕ) → i < slots → l ≡ replicate slots None → at l i ≡ None
  empty_at l i lt e = ap (λ (z : List (Option P)). at z i) e ∙ get_or-replicate slots i None None lt

  are_at : AreAt (replicate slots Nowhere) m o
  are_at = record {
    in_step = in_step;
    whole = length-replicate {A = Place P} slots Nowhere;
    out = sym n.empty.2;
    each = λ i lt. subst (λ (t : Place P). InPlace t (at m.pending i) (at (items_going m.past o.past) i) (at o.items i) (at (items_coming m.past o.past) i) (at m.returned i)) (sym (get_or-replicate slots i Nowhere Nowhere lt)) record {
      pending = empty_at m.pending i lt n.empty.0;
      going = ap (λ (l : List (Option P)). at l i) (none_going m.past o.past in_step same);
      held = empty_at o.items i lt p.empty.2;
      coming = ap (λ b. at (if b || not (o.past.number == m.past.number) then [] else (observed o.past.events).given) i) n.silent.1;
      returned = empty_at m.returned i lt n.empty.1;
    };
  }

  pub new_agree : Agrees (new_queue frames) m o
  new_agree = (
    λ i. record {
      draft = sym n.begins.2 i;
      dirty = sym n.idle.0 i;
      editing = sym n.idle.1 i;
      edited = sym n.idle.2 i;
      pushed = sym n.silent.0 i;
      last = sym n.begins.1 i;
      number = sym p.silent.0 i;
      current = sym p.empty.0 i;
      previous = sym p.empty.1 i;
      places = replicate slots Nowhere;
    },
    are_at,
  )
