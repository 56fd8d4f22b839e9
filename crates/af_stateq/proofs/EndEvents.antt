-- What the ends' events say after each call and each meeting.
use Rattle.std.proofs.Common.{◌≡◌, ◌≢◌, ℕ, ◌+◌, ◌%◌, ◌==◌, ◌&&◌, ◌||◌, not, if◌then◌else◌, Bool, true, false, true≢false, List, [], ◌∷◌, ◌++◌, Option, Some, None, IfSome, refl, ap, sym, ◌∙◌, subst, arith, eq-eqb, ne_eqb}
use Rattle.af_stateq.proofs.Common.{Ack, FastState, HasStateHistory, MutatorEvent, MutatorPoint, ObserverEvent, ObserverPoint, Push, SawAck, SawNext, fold-append, mutated, mutator_next, mutator_start, observed, observer_next, observer_start}
use mathlib.Core.Logic.{dite}
use native.Mathlib.Decide.{ℕ_discrete}
use Rattle.af_model.specs.declared.states.MutatorEvent.TheVariants as mutator
use Rattle.af_model.specs.declared.states.ObserverEvent.TheVariants as observer
use Rattle.af_stateq.specs.Shelved.{word}
use Rattle.af_stateq.specs.Ends.{Pushes, Polls, saw, pushes, looked, took, acknowledged}
use Rattle.af_stateq.specs.OneHand.{AreInStep, HaveMet, items_going, items_coming}
use Rattle.af_stateq.proofs.Exact.{sees_the_last, sees_the_ack}

-- two states that follow each other have different words
pub words_differ : (a n : ℕ) → a + 1 ≡ n → word a ≢ word n
words_differ a n e same = dite (ℕ_discrete a 0)
    (λ z. let one : word n ≡ 1 = ap word (let k : n ≡ 1 = omega arith in k) in let none : word a ≡ 0 = ap word z in omega arith)
    (λ nz. let f : word a ≡ (a + 3) % 4 + 1 = ap (λ b. if b then 0 else (a + 3) % 4 + 1) (ne_eqb a 0 nz) in
    let g : word n ≡ (n + 3) % 4 + 1 = ap (λ b. if b then 0 else (n + 3) % 4 + 1) (ne_eqb n 0 (λ z. omega arith)) in
    omega arith)

module _ {P : Type 0} where
  -- one event more at the end
  pub mutated-end : (first : FastState) (ms : List (MutatorEvent P)) (e : MutatorEvent P) → mutated first (ms ++ e ∷ []) ≡ mutator_next (mutated first ms) e
  mutated-end first ms e = fold-append mutator_next (mutator_start first) ms (e ∷ [])

  pub observed-end : (os : List (ObserverEvent P)) (e : ObserverEvent P) → observed (os ++ e ∷ []) ≡ observer_next (observed os) e
  observed-end os e = fold-append observer_next observer_start os (e ∷ [])

module _ {P K : Type 0} (m : Pushes P K) (o : Polls P K) (s : AreInStep m o) where
  -- a look that found the last state acknowledged
  pub step_saw : (items : List (Option P)) → o.number ≡ m.number → AreInStep (saw m.number items m) o
  step_saw items same = record {
    pushed = ap (λ (z : MutatorPoint P). z.pushed) (mutated-end m.first m.events (SawAck m.number items)) ∙ s.pushed;
    last = ap (λ (z : MutatorPoint P). z.last) (mutated-end m.first m.events (SawAck m.number items)) ∙ s.last;
    clear = ap (λ (z : MutatorPoint P). z.clear) (mutated-end m.first m.events (SawAck m.number items)) ∙ ap (λ n. m.number == n) s.pushed ∙ eq-eqb m.number m.number refl ∙ sym (eq-eqb (word m.number) (word m.number) refl);
    acked = s.acked;
    level = s.level;
    seen = λ _. same;
  }

  -- a look that found the state before
  pub step_older : (a : ℕ) → a + 1 ≡ m.number → AreInStep (saw a [] m) o
  step_older a e = record {
    pushed = ap (λ (z : MutatorPoint P). z.pushed) (mutated-end m.first m.events (SawAck a [])) ∙ s.pushed;
    last = ap (λ (z : MutatorPoint P). z.last) (mutated-end m.first m.events (SawAck a [])) ∙ s.last;
    clear = ap (λ (z : MutatorPoint P). z.clear) (mutated-end m.first m.events (SawAck a [])) ∙ ap (λ n. a == n) s.pushed ∙ ne_eqb a m.number (λ h. omega arith) ∙ sym (ne_eqb (word a) (word m.number) (words_differ a m.number e));
    acked = s.acked;
    level = s.level;
    seen = λ t. absurd (true≢false (sym t ∙ ne_eqb (word a) (word m.number) (words_differ a m.number e)));
  }

  pub step_push : (x : FastState) (items : List (Option P)) → o.number ≡ m.number → AreInStep (pushes x items m) o
  step_push x items same = record {
    pushed = ap (λ (z : MutatorPoint P). z.pushed) (mutated-end m.first m.events (Push (m.number + 1) x items));
    last = ap (λ (z : MutatorPoint P). z.last) (mutated-end m.first m.events (Push (m.number + 1) x items));
    clear = ap (λ (z : MutatorPoint P). z.clear) (mutated-end m.first m.events (Push (m.number + 1) x items));
    acked = s.acked;
    level = (omega arith, omega arith);
    seen = λ t. absurd (true≢false (sym t));
  }

  pub step_look : AreInStep m (looked o)
  step_look = record {
    pushed = s.pushed;
    last = s.last;
    clear = s.clear;
    acked = ap (λ (z : ObserverPoint P). z.acked) (observed-end o.events (SawNext o.number None [])) ∙ s.acked;
    level = s.level;
    seen = s.seen;
  }

  pub step_take : (x : FastState) (came back : List (Option P)) → o.number + 1 ≡ m.number → AreInStep m (acknowledged back (took x came o))
  step_take x came back e = record {
    pushed = s.pushed;
    last = s.last;
    clear = s.clear;
    acked = ap (λ (z : ObserverPoint P). z.acked) (observed-end (o.events ++ SawNext (o.number + 1) (Some x) came ∷ []) (Ack (o.number + 1) back));
    level = (omega arith, omega arith);
    seen = λ _. e;
  }

  -- a meeting appends a Learn to each list
  pub step_meet : (c d : ℕ) → AreInStep record m { events = m.events ++ mutator.Learn d ∷ [] } record o { events = o.events ++ observer.Learn c ∷ [] }
  step_meet c d = record {
    pushed = ap (λ (z : MutatorPoint P). z.pushed) (mutated-end m.first m.events (mutator.Learn d)) ∙ s.pushed;
    last = ap (λ (z : MutatorPoint P). z.last) (mutated-end m.first m.events (mutator.Learn d)) ∙ s.last;
    clear = ap (λ (z : MutatorPoint P). z.clear) (mutated-end m.first m.events (mutator.Learn d)) ∙ s.clear;
    acked = ap (λ (z : ObserverPoint P). z.acked) (observed-end o.events (observer.Learn c)) ∙ s.acked;
    level = s.level;
    seen = s.seen;
  }

  -- the items on their way stay at a meeting
  pub going_meet : (c d : ℕ) → items_going record m { events = m.events ++ mutator.Learn d ∷ [] } record o { events = o.events ++ observer.Learn c ∷ [] } ≡ items_going m o
  going_meet c d = ap (λ (l : List (Option P)). if o.number == m.number then [] else l) (ap (λ (z : MutatorPoint P). z.items) (mutated-end m.first m.events (mutator.Learn d)))

  pub coming_meet : (c d : ℕ) → items_coming record m { events = m.events ++ mutator.Learn d ∷ [] } record o { events = o.events ++ observer.Learn c ∷ [] } ≡ items_coming m o
  coming_meet c d = ap (λ (l : List (Option P)). if m.clear || not (o.number == m.number) then [] else l) (ap (λ (z : ObserverPoint P). z.given) (observed-end o.events (observer.Learn c)))

  -- after a push those that it carried are on their way
  pub going_push : (x : FastState) (items : List (Option P)) → o.number ≡ m.number → items_going (pushes x items m) o ≡ items
  going_push x items same = ap (λ b. if b then [] else (mutated m.first (m.events ++ Push (m.number + 1) x items ∷ [])).items) (ne_eqb o.number (m.number + 1) (λ e. omega arith)) ∙ ap (λ (z : MutatorPoint P). z.items) (mutated-end m.first m.events (Push (m.number + 1) x items))

  pub coming_push : (x : FastState) (items : List (Option P)) → o.number ≡ m.number → items_coming (pushes x items m) o ≡ []
  coming_push x items same = ap (λ b. if not b then [] else (observed o.events).given) (ne_eqb o.number (m.number + 1) (λ e. omega arith))

  -- if the observer is at the last push none is on its way to it
  pub none_going : o.number ≡ m.number → items_going m o ≡ []
  none_going same = ap (λ b. if b then [] else (mutated m.first m.events).items) (eq-eqb o.number m.number same)

  -- if it isn't, none is on its way back
  pub none_coming : o.number + 1 ≡ m.number → items_coming m o ≡ []
  none_coming e = ap (λ b. if m.clear || not b then [] else (observed o.events).given) (ne_eqb o.number m.number (λ h. omega arith)) ∙ or_true m.clear
    where
      or_true : (b : Bool) → (if b || true then [] else (observed o.events).given) ≡ []
      or_true true = refl
      or_true false = refl

  -- after a poll those that were given back are on their way
  pub coming_take : (x : FastState) (came back : List (Option P)) → o.number + 1 ≡ m.number → items_coming m (acknowledged back (took x came o)) ≡ back
  coming_take x came back e =
      ap (λ b. if b || not (o.number + 1 == m.number) then [] else (observed ((o.events ++ SawNext (o.number + 1) (Some x) came ∷ []) ++ Ack (o.number + 1) back ∷ [])).given) (not_clear m.clear s.seen)
      ∙ ap (λ b. if not b then [] else (observed ((o.events ++ SawNext (o.number + 1) (Some x) came ∷ []) ++ Ack (o.number + 1) back ∷ [])).given) (eq-eqb (o.number + 1) m.number e)
      ∙ ap (λ (z : ObserverPoint P). z.given) (observed-end (o.events ++ SawNext (o.number + 1) (Some x) came ∷ []) (Ack (o.number + 1) back))
    where
      not_clear : (b : Bool) → (b ≡ true → o.number ≡ m.number) → b ≡ false
      not_clear true h = absurd (let z = h refl in omega arith)
      not_clear false h = refl

  -- a look of the observer after a meeting
  pub look_is_exact : HaveMet m o → (n : ℕ) (x : Option FastState) (items : List (Option P)) (rest : List (ObserverEvent P)) → HasStateHistory m.first m.events (o.events ++ SawNext n x items ∷ rest)
      → (n ≡ m.number) × IfSome x (λ y. (y ≡ m.last) × (items ≡ (mutated m.first m.events).items))
  look_is_exact met n x items rest h =
      let e = sees_the_last m.first m.events met.ms (mutator.Learn met.d ∷ []) met.os rest met.c n x items (subst (λ (os : List (ObserverEvent P)). HasStateHistory m.first m.events (os ++ SawNext n x items ∷ rest)) met.observer h) met.mutator met.observer_knows refl in
      (e.0 ∙ s.pushed, subst (λ (z : FastState). IfSome x (λ y. (y ≡ z) × (items ≡ (mutated m.first m.events).items))) s.last e.1)

  -- a look of the mutator after a meeting
  pub ack_is_exact : HaveMet m o → (a : ℕ) (items : List (Option P)) (rest : List (MutatorEvent P)) → HasStateHistory m.first (m.events ++ SawAck a items ∷ rest) o.events
      → (a ≡ o.number) × (a ≡ m.number → items ≡ items_coming m o)
  ack_is_exact met a items rest h =
      let e = sees_the_ack m.first o.events met.os (observer.Learn met.c ∷ []) met.ms rest met.d a items (subst (λ (ms : List (MutatorEvent P)). HasStateHistory m.first (ms ++ SawAck a items ∷ rest) o.events) met.mutator h) met.observer met.mutator_knows refl in
      let now : mutated m.first m.events ≡ mutator_next (mutated m.first met.ms) (mutator.Learn met.d) = ap (mutated m.first) met.mutator ∙ mutated-end m.first met.ms (mutator.Learn met.d) in
      let clear : (mutated m.first met.ms).clear ≡ m.clear = ap (λ (z : MutatorPoint P). z.clear) (sym now) ∙ s.clear in
      let number : (mutated m.first met.ms).pushed ≡ m.number = ap (λ (z : MutatorPoint P). z.pushed) (sym now) ∙ s.pushed in
      let acked : a ≡ o.number = e.0 ∙ s.acked in (
        acked,
        λ same. e.1
            ∙ (λ i. if not (clear i) && (acked i == number i) then (observed o.events).given else [])
            ∙ either m.clear (o.number == m.number),
      )
    where
      either : (b c : Bool) → (if not b && c then (observed o.events).given else []) ≡ (if b || not c then [] else (observed o.events).given)
      either true c = refl
      either false true = refl
      either false false = refl
