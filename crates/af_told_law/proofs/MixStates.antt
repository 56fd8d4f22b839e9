-- The states that the fast mixer adopted are the first of those that the run tells.
use Rattle.std.proofs.Common.{◌≡◌, ◌≢◌, ⊎_elim, ℕ, zero, suc, ◌+◌, ◌<◌, ◌≤◌, true≢false, if◌then◌else◌, is_some, fold, List, [], ◌∷◌, ◌++◌, length, length-append, Option, Some, None, refl, sym, ap, subst, ◌∙◌, arith}
use Rattle.af_told_law.proofs.Common.{CarriesNone, CycleEntry, Event, FastState, HasStateHistory, IsInOrder, Legal, MixerState, MutatorEvent, NormalState, ObserverEvent, QueuePoint, Run, ServerState, Session, UseUpTo, adopted_states, cases_eq, cold_done, cold_of, eq-eqb, is_cold, last_used, legal, ne_eqb, next, no_state, none-some, one, polled_in_order, polled_states, start_of_queue, state_adopted, state_for, state_more, state_of, two, twos}
use Rattle.af_model.specs.declared.states.MutatorEvent.TheVariants as mutator
use Rattle.af_model.specs.declared.states.ObserverEvent.TheVariants as observer
use Rattle.af_told_law.specs.Tells.{TellsFast, TellsNormal}

-- ## States polled

-- which state counts as the first doesn't matter, if each acknowledgement follows a look that took its state
any_first : (p : QueuePoint ServerState) (y z : FastState) (es : List (Event (MutatorEvent ServerState) (ObserverEvent ServerState))) → (p.observer.due ≢ 0 → y ≡ z) → Legal legal next p es → polled_states y (twos es) ≡ polled_states z (twos es)
any_first p y z [] same l = refl
any_first p y z (one (mutator.Push k x items) ∷ es) same l = any_first (next p (one (mutator.Push k x items))) y z es same l.1
any_first p y z (one (mutator.SawAck a items) ∷ es) same l = any_first (next p (one (mutator.SawAck a items))) y z es same l.1
any_first p y z (one (mutator.Learn c) ∷ es) same l = any_first (next p (one (mutator.Learn c))) y z es same l.1
any_first p y z (two (observer.SawNext k None items) ∷ es) same l =
    let hit : k ≡ p.observer.acked = ⊎_elim (λ (e : k ≡ p.observer.acked). e) (λ (ne : k ≢ p.observer.acked). absurd (true≢false (sym (ap is_some (l.0.1 ∙ ap (λ b. if b then None else Some p.mutator.last) (ne_eqb k p.observer.acked ne)))))) (cases_eq k p.observer.acked) in
    any_first (next p (two (observer.SawNext k None items))) y z es (λ due. absurd (due (ap (λ b. if b then 0 else k) (eq-eqb k p.observer.acked hit)))) l.1
any_first p y z (two (observer.SawNext k (Some x) items) ∷ es) same l = any_first (next p (two (observer.SawNext k (Some x) items))) x x es (λ due. refl) l.1
any_first p y z (two (observer.Ack k items) ∷ es) same l =
    let e : y ≡ z = same (λ none. l.0.1 (l.0.0 ∙ none)) in
    let rest = any_first (next p (two (observer.Ack k items))) y z es (λ due. absurd (due refl)) l.1 in
    λ j. e j ∷ rest j
any_first p y z (two (observer.Learn c) ∷ es) same l = any_first (next p (two (observer.Learn c))) y z es (λ due. absurd (due refl)) l.1

polled_any : (first z : FastState) (ms : List (MutatorEvent ServerState)) (os : List (ObserverEvent ServerState)) → HasStateHistory first ms os → polled_states first os ≡ polled_states z os
polled_any first z ms os h = subst (λ (es : List (ObserverEvent ServerState)). polled_states first es ≡ polled_states z es) h.of_two (any_first (start_of_queue first) first z h.order (λ due. absurd (due refl)) h.is_legal)

-- ## States of a number

some_state : (xs : List FastState) (k : ℕ) → 0 < k → k ≤ length xs → state_of xs k ≡ None → ⊥
some_state xs zero low high none = absurd (omega (arith, low))
some_state [] (suc k) low high none = absurd (omega (arith, high))
some_state (x ∷ xs) (suc zero) low high none = none-some x (sym none)
some_state (x ∷ xs) (suc (suc k)) low high none = some_state xs (suc k) (omega arith) (omega (arith, high)) none

-- the cold generation after some entries
abbrev cold_after : List FastState → ℕ → CycleEntry → ℕ
cold_after states done entry = if is_cold entry.cycle then cold_of (state_of states entry.state) else done

cold_front : (xs more : List FastState) (n done : ℕ) (entries : List CycleEntry) → n ≤ length xs → UseUpTo n entries → fold (cold_after (xs ++ more)) done entries ≡ fold (cold_after xs) done entries
cold_front xs more n done [] few up = refl
cold_front xs more n done (entry ∷ entries) few up =
    cold_front xs more n (cold_after (xs ++ more) done entry) entries few up.1
    ∙ ap (λ (o : Option FastState). fold (cold_after xs) (if is_cold entry.cycle then cold_of o else done) entries) (state_more xs more entry.state (let le = up.0 in omega (arith, le, few)))

-- ## In a session

module _ (s : Session) (run : Run) (n : NormalState) (f : MixerState) (order : IsInOrder f) (normal : TellsNormal s run n) (fast : TellsFast s run f) (history : HasStateHistory n.mutator.past.first n.mutator.past.events f.observer.past.events) where
  prefix : (missing : List FastState) × (run.states ≡ adopted_states f ++ missing)
  prefix =
      let all = polled_in_order n.mutator.past.first n.mutator.past.events f.observer.past.events history in
      (all.0, sym normal.states ∙ all.2 ∙ ap (λ (xs : List FastState). xs ++ all.0) (polled_any n.mutator.past.first no_state n.mutator.past.events f.observer.past.events history))

  many : length (adopted_states f) ≡ f.observer.past.number
  many = order.observer.told.counted no_state

  pub few_adopted : length (adopted_states f) ≤ length run.states
  few_adopted = let l : length run.states ≡ length (adopted_states f) + length prefix.0 = ap length prefix.1 ∙ length-append (adopted_states f) prefix.0 in omega (arith, l)

  pub same_state : (k : ℕ) → k ≤ f.observer.past.number → state_of run.states k ≡ state_of (adopted_states f) k
  same_state k low = ap (λ (xs : List FastState). state_of xs k) prefix.1 ∙ state_more (adopted_states f) prefix.0 k (let m = many in omega (arith, low, m))

  pub same_cold : cold_done run.states run.entries ≡ cold_done (adopted_states f) run.entries
  same_cold =
      ap (λ (xs : List FastState). cold_done xs run.entries) prefix.1
      ∙ cold_front (adopted_states f) prefix.0 (last_used run.entries) 0 run.entries (let m = many in let l = order.uses.low in let e = ap last_used fast.entries in omega (arith, m, l, e)) (subst (λ (es : List CycleEntry). UseUpTo (last_used es) es) fast.entries order.uses.used)

  -- the state of the observer's number is the observer's
  pub state_told : (k : ℕ) → k ≡ f.observer.past.number → state_for s run k ≡ f.observer.past.state
  state_told k is =
      let low : run.current ≤ length run.states = (let m = many in let l = few_adopted in let c = fast.current in omega (arith, m, l, c)) in
      ap (λ (i : ℕ). state_for s run i) (is ∙ fast.current) ∙ state_adopted s run low ∙ sym fast.state

  -- if the observer's state is of no number, it carries nothing
  pub none_adopted : state_of run.states f.observer.past.number ≡ None → CarriesNone f.observer.past.state
  none_adopted none = ⊎_elim (λ (e : f.observer.past.number ≡ 0). order.begins e)
      (λ (ne : f.observer.past.number ≢ 0). absurd (some_state (adopted_states f) f.observer.past.number (omega (arith, ne)) (let m = many in omega (arith, m)) (sym (same_state f.observer.past.number (omega arith)) ∙ none)))
      (cases_eq f.observer.past.number 0)

  -- if the last entry used no state, its number is 0
  pub none_used : state_of run.states (last_used run.entries) ≡ None → last_used run.entries ≡ 0
  none_used none = ⊎_elim (λ (e : last_used run.entries ≡ 0). e)
      (λ (ne : last_used run.entries ≢ 0). let low : last_used run.entries ≤ f.observer.past.number = (let l = order.uses.low in let e = ap last_used fast.entries in omega (arith, l, e)) in
      absurd (some_state (adopted_states f) (last_used run.entries) (omega (arith, ne)) (let m = many in omega (arith, m, low)) (sym (same_state (last_used run.entries) low) ∙ none)))
      (cases_eq (last_used run.entries) 0)
