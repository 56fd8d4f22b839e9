-- The states polled are a prefix of the states pushed, and at most one is missing.
use Rattle.std.proofs.Common.{◌≡◌, ◌≢◌, ◌+◌, ◌≤◌, ◌==◌, if◌then◌else◌, Bool, true≢false, List, [], ◌∷◌, ◌++◌, length, Some, None, is_some, unwrap_or, refl, ap, sym, ◌∙◌, arith, eq-eqb, ne_eqb}
use Rattle.af_stateq.proofs.Common.{Ack, Event, FastState, HasStateHistory, Legal, MutatorEvent, ObserverEvent, Push, QueuePoint, SawAck, SawNext, point_after, legal, next, one, ones, start_of_queue, two, twos}
use mathlib.Core.Logic.{dite}
use native.Mathlib.Decide.{ℕ_discrete}
use Rattle.af_model.specs.declared.states.MutatorEvent.TheVariants as mutator
use Rattle.af_model.specs.declared.states.ObserverEvent.TheVariants as observer
use Rattle.af_stateq.specs.Laws.{pushed_states, polled_states, PolledInOrder}

append_nil : (xs : List FastState) → xs ++ [] ≡ xs
append_nil [] = refl
append_nil (x ∷ xs) = ap (λ z. x ∷ z) (append_nil xs)

module _ {P : Type 0} where
  -- the state that is pushed and not acknowledged
  unfoldable pending : QueuePoint P → List FastState
  pending p = if p.observer.acked == p.mutator.pushed then [] else p.mutator.last ∷ []

  -- at a point, with the state y taken last
  record At (p : QueuePoint P) (y : FastState) : Type 0 where
    low : p.observer.acked ≤ p.mutator.pushed
    high : p.mutator.pushed ≤ p.observer.acked + 1
    due : p.observer.due ≢ 0 → (p.observer.due ≡ p.mutator.pushed) × (p.mutator.pushed ≡ p.observer.acked + 1) × (y ≡ p.mutator.last)

  none_pending : (p : QueuePoint P) → p.observer.acked ≡ p.mutator.pushed → pending p ≡ []
  unfolding pending
  none_pending p e = ap (λ (b : Bool). if b then [] else p.mutator.last ∷ []) (eq-eqb p.observer.acked p.mutator.pushed e)

  one_pending : (p : QueuePoint P) → p.observer.acked ≢ p.mutator.pushed → pending p ≡ p.mutator.last ∷ []
  unfolding pending
  one_pending p e = ap (λ (b : Bool). if b then [] else p.mutator.last ∷ []) (ne_eqb p.observer.acked p.mutator.pushed e)

  abbrev Balanced : QueuePoint P → FastState → List (Event (MutatorEvent P) (ObserverEvent P)) → Type 0
  Balanced p y es = pending p ++ pushed_states (ones es) ≡ polled_states y (twos es) ++ pending (point_after legal next p es)

  -- an event that changes neither the states nor the numbers
  same_pending : (p q : QueuePoint P) → q.observer.acked ≡ p.observer.acked → q.mutator.pushed ≡ p.mutator.pushed → q.mutator.last ≡ p.mutator.last → pending q ≡ pending p
  unfolding pending
  same_pending p q a b c = λ i. if a i == b i then [] else c i ∷ []

  balanced : (p : QueuePoint P) (y : FastState) (es : List (Event (MutatorEvent P) (ObserverEvent P))) → At p y → Legal legal next p es → Balanced p y es
  balanced p y [] t l = append_nil (pending p)
  balanced p y (one (Push k x items) ∷ es) t l =
      let q = next p (one (Push k x items)) in
      let none : pending p ≡ [] = none_pending p l.0.1 in
      let new : pending q ≡ x ∷ [] = one_pending q (λ e. let a = l.0.0 in let b = l.0.1 in let f : p.observer.acked ≡ k = e in omega arith) in
      let t' : At q y = record {
        low = (let a = l.0.0 in let b = l.0.1 in omega arith);
        high = (let a = l.0.0 in let b = l.0.1 in omega arith);
        due = λ d. let u = t.due d in absurd (let b = l.0.1 in let c = u.1 in omega arith);
      } in
      ap (λ (z : List FastState). z ++ x ∷ pushed_states (ones es)) none ∙ sym (ap (λ (z : List FastState). z ++ pushed_states (ones es)) new) ∙ balanced q y es t' l.1
  balanced p y (one (SawAck a items) ∷ es) t l = let q = next p (one (SawAck a items)) in
      sym (ap (λ (z : List FastState). z ++ pushed_states (ones es)) (same_pending p q refl refl refl)) ∙ balanced q y es record { low = t.low; high = t.high; due = t.due } l.1
  balanced p y (one (mutator.Learn c) ∷ es) t l = let q = next p (one (mutator.Learn c)) in
      sym (ap (λ (z : List FastState). z ++ pushed_states (ones es)) (same_pending p q refl refl refl)) ∙ balanced q y es record { low = t.low; high = t.high; due = t.due } l.1
  balanced p y (two (SawNext k None items) ∷ es) t l = let q = next p (two (SawNext k None items)) in
      let hit : k ≡ p.observer.acked = dite (ℕ_discrete k p.observer.acked) (λ e. e) (λ ne. absurd (true≢false (sym (ap is_some (l.0.1 ∙ ap (λ (b : Bool). if b then None else Some p.mutator.last) (ne_eqb k p.observer.acked ne)))))) in
      sym (ap (λ (z : List FastState). z ++ pushed_states (ones es)) (same_pending p q refl refl refl)) ∙ balanced q y es record { low = t.low; high = t.high; due = λ d. absurd (d (ap (λ (b : Bool). if b then 0 else k) (eq-eqb k p.observer.acked hit))) } l.1
  balanced p y (two (SawNext k (Some x) items) ∷ es) t l = let q = next p (two (SawNext k (Some x) items)) in
      let miss : k ≢ p.observer.acked = λ e. true≢false (ap is_some (l.0.1 ∙ ap (λ (b : Bool). if b then None else Some p.mutator.last) (eq-eqb k p.observer.acked e))) in
      let is : x ≡ p.mutator.last = ap (λ o. unwrap_or o x) (l.0.1 ∙ ap (λ (b : Bool). if b then None else Some p.mutator.last) (ne_eqb k p.observer.acked miss)) in
      let due_is : q.observer.due ≡ k = ap (λ (b : Bool). if b then 0 else k) (ne_eqb k p.observer.acked miss) in
      let t' : At q x = record { low = t.low; high = t.high; due = λ d. (due_is ∙ l.0.0, (let a = l.0.0 in let b = t.low in let c = t.high in omega arith), is) } in
      sym (ap (λ (z : List FastState). z ++ pushed_states (ones es)) (same_pending p q refl refl refl)) ∙ balanced q x es t' l.1
  balanced p y (two (Ack k items) ∷ es) t l = let q = next p (two (Ack k items)) in
      let u = t.due (λ e. l.0.1 (l.0.0 ∙ e)) in
      let k_is : k ≡ p.mutator.pushed = l.0.0 ∙ u.0 in
      let old : pending p ≡ y ∷ [] = one_pending p (λ e. let c = u.1 in omega arith) ∙ ap (λ z. z ∷ []) (sym u.2) in
      let none : pending q ≡ [] = none_pending q k_is in
      let t' : At q y = record { low = (let e = k_is in omega arith); high = (let e = k_is in omega arith); due = λ d. absurd (d refl) } in
      ap (λ (z : List FastState). z ++ pushed_states (ones es)) old ∙ ap (λ (z : List FastState). y ∷ z) (sym (ap (λ (z : List FastState). z ++ pushed_states (ones es)) none) ∙ balanced q y es t' l.1)
  balanced p y (two (observer.Learn c) ∷ es) t l = let q = next p (two (observer.Learn c)) in
      sym (ap (λ (z : List FastState). z ++ pushed_states (ones es)) (same_pending p q refl refl refl)) ∙ balanced q y es record { low = t.low; high = t.high; due = λ d. absurd (d refl) } l.1

  short : (p : QueuePoint P) → length (pending p) ≤ 1
  short p = dite (ℕ_discrete p.observer.acked p.mutator.pushed) (λ e. let a = ap length (none_pending p e) in omega arith) (λ ne. let a = ap length (one_pending p ne) in omega arith)

  pub polled_in_order : (first : FastState) (ms : List (MutatorEvent P)) (os : List (ObserverEvent P)) → HasStateHistory first ms os → PolledInOrder first ms os
  polled_in_order first ms os h =
      let begin : pending (start_of_queue first) ≡ [] = none_pending (start_of_queue first) refl in
      let all = balanced (start_of_queue first) first h.order record { low = omega arith; high = omega arith; due = λ d. absurd (d refl) } h.is_legal in (
        pending (point_after legal next (start_of_queue first) h.order),
        short (point_after legal next (start_of_queue first) h.order),
        ap pushed_states (sym h.of_one) ∙ sym (ap (λ (z : List FastState). z ++ pushed_states (ones h.order)) begin) ∙ all ∙ ap (λ z. polled_states first z ++ pending (point_after legal next (start_of_queue first) h.order)) h.of_two,
      )
