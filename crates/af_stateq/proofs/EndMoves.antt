-- How the items of all slots go from place to place by a look, a push, a poll, a meeting and an edit.
use Rattle.std.proofs.Common.{◌≡◌, ℕ, ◌+◌, ◌<◌, ◌==◌, ◌||◌, not, if◌then◌else◌, Bool, true, false, List, [], ◌∷◌, ◌++◌, length, map, Option, None, is_some, slice_set, refl, ap, sym, ◌∙◌, subst, arith, eq-eqb}
use Rattle.af_stateq.proofs.Common.{FastState, Move, MutatorPoint, Nowhere, ObserverPoint, Place, SawAck, SawNext, SeeAck, Send, Take, carries, get_or-map, get_or-replicate, get_or-set_other, get_or-set_same, is_placed, moved_from, observed, place_at, slots}
use mathlib.Core.Logic.{dite}
use native.Mathlib.Decide.{ℕ_discrete}
use Rattle.af_model.specs.declared.states.MutatorEvent.TheVariants as mutator
use Rattle.af_model.specs.declared.states.ObserverEvent.TheVariants as observer
use Rattle.af_model.proofs.Places.{length-moved_from, place_at-moved_from}
use Rattle.af_stateq.specs.Shelved.{word, nothing}
use Rattle.af_stateq.specs.Ends.{Pushes, Polls, saw, took, acknowledged}
use Rattle.af_stateq.specs.Mutates.{Mutates, at, is_out}
use Rattle.af_stateq.specs.Observes.{Observes, IsSettled}
use Rattle.af_stateq.specs.Answers.{shows, sees_same}
use Rattle.af_stateq.specs.OneHand.{InPlace, AreInStep, AreAt, items_going, items_coming}
use Rattle.af_stateq.proofs.InPlaces.{is_placed-moved, send_one, look_one, poll_one}
use Rattle.af_stateq.proofs.EndEvents.{mutated-end, observed-end, step_saw, step_older, step_push, step_look, step_take, step_meet, going_meet, coming_meet, going_push, coming_push, none_going, none_coming, coming_take}

module _ {P : Type 0} where
  pub placed_from : (m : Move) (i : ℕ) (places : List (Place P)) → map is_placed (moved_from m i places) ≡ map is_placed places
  placed_from m i [] = refl
  placed_from m i (pl ∷ places) = λ j. is_placed-moved m i pl j ∷ placed_from m (i + 1) places j

module _ {P : Type 0} (places : List (Place P)) (pending goes here comes returned : List (Option P)) where
  abbrev pub Each : List (Place P) → List (Option P) → List (Option P) → Type 0
  Each pls pe re = (i : ℕ) → i < slots → InPlace (place_at pls i) (at pe i) (at goes i) (at here i) (at comes i) (at re i)

  -- the item of one slot goes to another place by an edit
  pub set_each : length places ≡ slots → length pending ≡ slots → length returned ≡ slots → Each places pending returned → (slot : ℕ) → slot < slots → (pl : Place P) (pe re : Option P)
      → InPlace pl pe (at goes slot) (at here slot) (at comes slot) re → Each (slice_set places slot pl) (slice_set pending slot pe) (slice_set returned slot re)
  set_each whole wp wr each slot lt pl pe re h i li = dite (ℕ_discrete i slot)
      (λ e. subst (λ k. InPlace (place_at (slice_set places slot pl) k) (at (slice_set pending slot pe) k) (at goes k) (at here k) (at comes k) (at (slice_set returned slot re) k)) (sym e)
      (subst (λ (t : Place P × Option P × Option P). InPlace t.0 t.1 (at goes slot) (at here slot) (at comes slot) t.2)
      (λ j. (sym (get_or-set_same places slot pl Nowhere (omega arith)) j, sym (get_or-set_same pending slot pe None (omega arith)) j, sym (get_or-set_same returned slot re None (omega arith)) j)) h))
      (λ ne. subst (λ (t : Place P × Option P × Option P). InPlace t.0 t.1 (at goes i) (at here i) (at comes i) t.2)
      (λ j. (sym (get_or-set_other places slot i pl Nowhere ne) j, sym (get_or-set_other pending slot i pe None ne) j, sym (get_or-set_other returned slot i re None ne) j)) (each i li))

module _ {P K : Type 0} (m : Mutates P K) (o : Observes P K) (places : List (Place P)) (here : AreAt places m o) where
  abbrev s : AreInStep m.past o.past
  s = here.in_step

  -- a slot's place says whether its item is out
  pub out_is : (slot : ℕ) → slot < slots → is_out m.out slot ≡ is_placed (place_at places slot)
  out_is slot lt = ap (λ l. is_out l slot) (sym here.out) ∙ get_or-map is_placed places slot Nowhere false (let w = here.whole in omega arith)

  -- a look that found the last state acknowledged
  pub sees_it : (items back : List (Option P)) → ((i : ℕ) → i < slots → at back i ≡ (if is_some (at items i) then at items i else at m.returned i)) → o.past.number ≡ m.past.number → items ≡ items_coming m.past o.past
      → AreAt (moved_from SeeAck 0 places) record m { past = saw m.past.number items m.past; returned = back } o
  sees_it items back joined same brought =
      let n = m.past.number in
      let w : Pushes P K = saw n items m.past in
      let seen : AreInStep w o.past = step_saw m.past o.past s items same in
      let goes : items_going w o.past ≡ items_going m.past o.past = none_going w o.past seen same ∙ sym (none_going m.past o.past s same) in
      let comes : items_coming w o.past ≡ [] = ap (λ b. if b || not (o.past.number == n) then [] else (observed o.past.events).given) (eq-eqb (word n) (word n) refl) in
      record {
        in_step = seen;
        whole = length-moved_from SeeAck 0 places ∙ here.whole;
        out = placed_from SeeAck 0 places ∙ here.out;
        each = λ i li. subst (λ (t : Place P × List (Option P)). InPlace t.0 (at m.pending i) (at t.1 i) (at o.items i) (at (items_coming w o.past) i) (at back i))
            (λ j. (sym (place_at-moved_from SeeAck i places (let e = here.whole in omega arith)) j, sym goes j))
            (look_one _ _ _ _ _ i (place_at places i) (here.each i li) _ _ (ap (λ (l : List (Option P)). at l i) comes)
            (joined i li ∙ ap (λ (l : List (Option P)). if is_some (at l i) then at l i else at m.returned i) brought));
      }

  -- if nothing is on its way back, a look would bring nothing
  pub sees_nothing : items_coming m.past o.past ≡ [] → AreAt (moved_from SeeAck 0 places) m o
  sees_nothing none = record {
    in_step = s;
    whole = length-moved_from SeeAck 0 places ∙ here.whole;
    out = placed_from SeeAck 0 places ∙ here.out;
    each = λ i li. let gone = ap (λ (l : List (Option P)). at l i) none in
        subst (λ (t : Place P). InPlace t (at m.pending i) (at (items_going m.past o.past) i) (at o.items i) (at (items_coming m.past o.past) i) (at m.returned i))
        (sym (place_at-moved_from SeeAck i places (let e = here.whole in omega arith)))
        (look_one _ _ _ _ _ i (place_at places i) (here.each i li) _ _ gone (sym (ap (λ (c : Option P). if is_some c then c else at m.returned i) gone)));
  }

  -- a look that found the state before
  pub sees_older : (a : ℕ) → a ≡ o.past.number → a + 1 ≡ m.past.number → AreAt places record m { past = saw a [] m.past } o
  sees_older a is e =
      let w : Pushes P K = saw a [] m.past in
      let seen : AreInStep w o.past = step_older m.past o.past s a e in
      let behind : o.past.number + 1 ≡ m.past.number = omega arith in
      let goes : items_going w o.past ≡ items_going m.past o.past = ap (λ (l : List (Option P)). if o.past.number == m.past.number then [] else l) (ap (λ (z : MutatorPoint P). z.items) (mutated-end m.past.first m.past.events (SawAck a []))) in
      let comes : items_coming w o.past ≡ items_coming m.past o.past = none_coming w o.past seen behind ∙ sym (none_coming m.past o.past s behind) in
      record {
        in_step = seen;
        whole = here.whole;
        out = here.out;
        each = λ i li. subst (λ (t : List (Option P) × List (Option P)). InPlace (place_at places i) (at m.pending i) (at t.0 i) (at o.items i) (at t.1 i) (at m.returned i)) (λ j. (sym goes j, sym comes j)) (here.each i li);
      }

  -- the draft is shown as the next state
  pub shows_it : o.past.number ≡ m.past.number → m.past.clear ≡ true → AreAt (moved_from Send 0 places) (shows m) o
  shows_it same clear = record {
    in_step = step_push m.past o.past s m.draft m.pending same;
    whole = length-moved_from Send 0 places ∙ here.whole;
    out = placed_from Send 0 places ∙ here.out;
    each = λ i li. subst (λ (t : Place P). InPlace t (at (nothing {P = P}) i) (at (items_going (shows m).past o.past) i) (at o.items i) (at (items_coming (shows m).past o.past) i) (at m.returned i))
        (sym (place_at-moved_from Send i places (let e = here.whole in omega arith)))
        (send_one _ _ _ _ _ i (place_at places i) (here.each i li)
        (ap (λ (l : List (Option P)). at l i) (none_going m.past o.past s same))
        (ap (λ b. at (if b || not (o.past.number == m.past.number) then [] else (observed o.past.events).given) i) clear)
        _ _ _ (get_or-replicate slots i None None li)
        (ap (λ (l : List (Option P)). at l i) (going_push m.past o.past s m.draft m.pending same))
        (ap (λ (l : List (Option P)). at l i) (coming_push m.past o.past s m.draft m.pending same)));
  }

  -- a look that found nothing new
  pub looks : AreAt places m (sees_same o)
  looks = record {
    in_step = step_look m.past o.past s;
    whole = here.whole;
    out = here.out;
    each = λ i li. subst (λ (l : List (Option P)). InPlace (place_at places i) (at m.pending i) (at (items_going m.past o.past) i) (at o.items i) (at l i) (at m.returned i))
        (ap (λ (l : List (Option P)). if m.past.clear || not (o.past.number == m.past.number) then [] else l) (sym (ap (λ (z : ObserverPoint P). z.given) (observed-end o.past.events (SawNext o.past.number None []))))) (here.each i li);
  }

  -- the next state was taken with the items that came, and acknowledged
  pub takes : (x : FastState) (came back : List (Option P)) (current previous : Option FastState) (items : List (Option P)) → ((i : ℕ) → i < slots → IsSettled x o.items came items back i)
      → o.past.number + 1 ≡ m.past.number → came ≡ items_going m.past o.past
      → AreAt (moved_from (Take x) 0 places) m record { past = acknowledged back (took x came o.past); current = current; previous = previous; items = items }
  takes x came back current previous items settled e brought =
      let p : Polls P K = acknowledged back (took x came o.past) in
      let seen : AreInStep m.past p = step_take m.past o.past s x came back e in
      let off : ℕ → Bool = λ i. not (carries x i) in
      let asks = λ (i : ℕ) (l : List (Option P)). is_some (at l i) || off i in
      record {
        in_step = seen;
        whole = length-moved_from (Take x) 0 places ∙ here.whole;
        out = placed_from (Take x) 0 places ∙ here.out;
        each = λ i li. subst (λ (t : Place P × List (Option P)). InPlace t.0 (at m.pending i) (at (items_going m.past p) i) (at items i) (at t.1 i) (at m.returned i))
            (λ j. (sym (place_at-moved_from (Take x) i places (let w = here.whole in omega arith)) j, sym (coming_take m.past o.past s x came back e) j))
            (poll_one _ _ _ _ _ x i _ _ _ (place_at places i) (here.each i li)
            (ap (λ (l : List (Option P)). at l i) (none_coming m.past o.past s e))
            (ap (λ (l : List (Option P)). at l i) (none_going m.past p seen e))
            ((settled i li).0 ∙ ap (λ (l : List (Option P)). if asks i l then at l i else at o.items i) brought)
            ((settled i li).1 ∙ ap (λ (l : List (Option P)). if asks i l then at o.items i else at l i) brought));
      }

  -- a meeting
  pub meets : (c d : ℕ) → AreAt places record m { past = record m.past { events = m.past.events ++ mutator.Learn d ∷ [] } } record o { past = record o.past { events = o.past.events ++ observer.Learn c ∷ [] } }
  meets c d = record {
    in_step = step_meet m.past o.past s c d;
    whole = here.whole;
    out = here.out;
    each = λ i li. subst (λ (t : List (Option P) × List (Option P)). InPlace (place_at places i) (at m.pending i) (at t.0 i) (at o.items i) (at t.1 i) (at m.returned i))
        (λ j. (sym (going_meet m.past o.past s c d) j, sym (coming_meet m.past o.past s c d) j)) (here.each i li);
  }
