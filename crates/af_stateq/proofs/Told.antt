-- The observer's numbers and states are those that its events tell.
use Rattle.std.proofs.Common.{◌≡◌, ℕ, ◌+◌, ◌-◌, List, [], ◌∷◌, ◌++◌, length, fold, Option, Some, None, refl, ap, sym, ◌∙◌, subst, arith, append_assoc, length-append}
use Rattle.af_stateq.proofs.Common.{Ack, FastState, ObserverEvent, ObserverPoint, SawNext, append-nil, fold-append, observed, observer_next, observer_start, same_before, state_next}
use Rattle.af_model.specs.declared.states.ObserverEvent.TheVariants as observer
use Rattle.af_model.specs.Cycles.{state_of}
use Rattle.af_stateq.specs.Laws.{polled_states}
use Rattle.af_stateq.specs.Observes.{Observes, InOrder, AreTold}

module _ {P : Type 0} where
  -- events after which these states more are polled
  polled_more : (rest : List (ObserverEvent P)) (more : List FastState) → ((y : FastState) → polled_states y rest ≡ more) → (y : FastState) (es : List (ObserverEvent P)) → polled_states y (es ++ rest) ≡ polled_states y es ++ more
  polled_more rest more h y [] = h y
  polled_more rest more h y (SawNext k (Some x) items ∷ es) = polled_more rest more h x es
  polled_more rest more h y (SawNext k None items ∷ es) = polled_more rest more h y es
  polled_more rest more h y (Ack k items ∷ es) = ap (λ z. y ∷ z) (polled_more rest more h y es)
  polled_more rest more h y (observer.Learn c ∷ es) = polled_more rest more h y es

  acked_more : (es rest : List (ObserverEvent P)) → (observed (es ++ rest)).acked ≡ (fold observer_next (observed es) rest).acked
  acked_more es rest = ap (λ (z : ObserverPoint P). z.acked) (fold-append observer_next observer_start es rest)

  pub told_start : (x : FastState) → AreTold {P = P} [] 0 x None None
  told_start x = record { acked = refl; counted = λ _. refl; current = λ _. refl; previous = λ _. refl; state = λ lt. absurd (omega arith) }

  module _ (es : List (ObserverEvent P)) (n : ℕ) (s : FastState) (current previous : Option FastState) (t : AreTold es n s current previous) where
    -- events that acknowledge nothing
    pub told_quiet : (rest : List (ObserverEvent P)) → ((y : FastState) → polled_states y rest ≡ []) → ((o : ObserverPoint P) → (fold observer_next o rest).acked ≡ o.acked) → AreTold (es ++ rest) n s current previous
    told_quiet rest none same =
        let states : (y : FastState) → polled_states y (es ++ rest) ≡ polled_states y es = λ y. polled_more rest [] none y es ∙ append-nil (polled_states y es) in record {
          acked = acked_more es rest ∙ same (observed es) ∙ t.acked;
          counted = λ y. ap length (states y) ∙ t.counted y;
          current = λ y. ap (λ (xs : List FastState). state_of xs n) (states y) ∙ t.current y;
          previous = λ y. ap (λ (xs : List FastState). state_of xs (n - 1)) (states y) ∙ t.previous y;
          state = t.state;
        }

    pub told_look : AreTold (es ++ SawNext n None [] ∷ []) n s current previous
    told_look = told_quiet (SawNext n None [] ∷ []) (λ _. refl) (λ _. refl)

    pub told_learn : (c : ℕ) → AreTold (es ++ observer.Learn c ∷ []) n s current previous
    told_learn c = told_quiet (observer.Learn c ∷ []) (λ _. refl) (λ _. refl)

    -- the next state was taken and acknowledged
    pub told_new : (x : FastState) (came back : List (Option P)) → AreTold ((es ++ SawNext (n + 1) (Some x) came ∷ []) ++ Ack (n + 1) back ∷ []) (n + 1) x (Some x) current
    told_new x came back =
        let two : List (ObserverEvent P) = SawNext (n + 1) (Some x) came ∷ Ack (n + 1) back ∷ [] in
        let states : (y : FastState) → polled_states y (es ++ two) ≡ polled_states y es ++ x ∷ [] = λ y. polled_more two (x ∷ []) (λ _. refl) y es in
        subst (λ (l : List (ObserverEvent P)). AreTold l (n + 1) x (Some x) current) (sym (append_assoc es (SawNext (n + 1) (Some x) came ∷ []) (Ack (n + 1) back ∷ []))) record {
          acked = acked_more es two;
          counted = λ y. ap length (states y) ∙ length-append (polled_states y es) (x ∷ []) ∙ ap (λ k. k + 1) (t.counted y);
          current = λ y. ap (λ (xs : List FastState). state_of xs (n + 1)) (states y) ∙ ap (λ k. state_of (polled_states y es ++ x ∷ []) (k + 1)) (sym (t.counted y)) ∙ state_next (polled_states y es) x;
          previous = λ y. let e : (n + 1) - 1 ≡ n = omega arith in let c = t.counted y in
              ap (λ (xs : List FastState). state_of xs ((n + 1) - 1)) (states y) ∙ ap (state_of (polled_states y es ++ x ∷ [])) e ∙ same_before (polled_states y es) x n (omega arith) ∙ t.current y;
          state = λ _. refl;
        }

-- an observer that learns keeps its order
pub order_learns : {P K : Type 0} (fits : K → ℕ → P → Type 0) (o : Observes P K) (o' : Observes P K) (c : ℕ) → InOrder fits o → o' ≡ record o { past = record o.past { events = o.past.events ++ observer.Learn c ∷ [] } } → InOrder fits o'
order_learns {P = P} {K = K} fits o o' c r e = subst (λ (z : Observes P K). InOrder fits z) (sym e)
    record { told = told_learn o.past.events o.past.number o.past.state o.current o.previous r.told c; state = r.state; whole = r.whole; held = r.held; fit = r.fit }
