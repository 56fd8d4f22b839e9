-- What a poll finds, if its observer had learnt of all pushes, and what meetings leave of that.
use Rattle.std.proofs.Common.{◌≡◌, ℕ, ◌+◌, ◌<◌, ◌≤◌, ◌⊎◌, inl, inr, ⊎_elim, ◌||◌, Bool, false, List, [], ◌∷◌, ◌++◌, length, Option, Some, None, IfSome, refl, ap, subst, ◌∙◌, append_assoc, arith}
use Rattle.af_told_law.proofs.Common.{Ack, FastState, HasStateHistory, MutatorEvent, MutatorPoint, New, Nothing, ObserverEvent, Observes, Poll, Polls, Pushes, Same, SawNext, ServerState, StreamNames, WasPolled, acknowledged, fold-append, is_push, list_any, list_any-append, mutated, mutator_next, mutator_start, observed, sees_same, sees_the_last, took}
use Rattle.af_model.specs.declared.states.MutatorEvent.TheVariants as mutator
use Rattle.af_model.specs.declared.states.ObserverEvent.TheVariants as observer
use Rattle.af_told_law.specs.Leads.{HasLearnt, InStep, Tells}
use Rattle.af_told_law.proofs.QueueSeen.{few_acked}

abbrev Pushed : Type 0
Pushed = List (MutatorEvent ServerState)

abbrev Polled : Type 0
Polled = List (ObserverEvent ServerState)

-- ## Meetings

module _ (m : Pushes ServerState StreamNames) (c : ℕ) where
  abbrev pub learnt_by : Pushes ServerState StreamNames
  learnt_by = record m { events = m.events ++ mutator.Learn c ∷ [] }

  then_learnt : (first : FastState) → mutated first (m.events ++ mutator.Learn c ∷ []) ≡ mutator_next (mutated first m.events) (mutator.Learn c)
  then_learnt first = fold-append mutator_next (mutator_start first) m.events (mutator.Learn c ∷ [])

  pub tells_met : Tells m → Tells learnt_by
  tells_met t = record {
    pushed = (λ first. ap (λ (p : MutatorPoint ServerState). p.pushed) (then_learnt first) ∙ t.pushed first);
    last = (λ some first. ap (λ (p : MutatorPoint ServerState). p.last) (then_learnt first) ∙ t.last some first);
  }

  -- the two ends of the queue, each of which learnt of the other, are in step
  pub step_met : (o : Polls ServerState StreamNames) → Tells m → o.number ≤ m.number → (0 < m.number → o.number ≡ m.number → o.state ≡ m.last) → InStep learnt_by (record o { events = o.events ++ observer.Learn (length m.events) ∷ [] })
  step_met o t few same = record {
    tells = tells_met t;
    few = few;
    same = same;
    knows = inr (record { told = m.events; more = mutator.Learn c ∷ []; before = o.events; count = length m.events; parts = refl; none_pushed = refl; learnt = refl; enough = omega arith });
  }

-- ## A poll before a meeting

module _ (first : FastState) (m : Pushes ServerState StreamNames) (c d : ℕ) (o o' : Observes ServerState StreamNames) (tells : Tells m)
    (history : HasStateHistory first (m.events ++ mutator.Learn c ∷ []) (o'.past.events ++ observer.Learn d ∷ [])) (acked : (observed (o'.past.events ++ observer.Learn d ∷ [])).acked ≡ o'.past.number) where
  pushed_then : (mutated first (m.events ++ mutator.Learn c ∷ [])).pushed ≡ m.number
  pushed_then = (tells_met m c tells).pushed first

  -- no more states were polled than pushed
  pub few_polled : o'.past.number ≤ m.number
  few_polled = let few = few_acked first (m.events ++ mutator.Learn c ∷ []) (o'.past.events ++ observer.Learn d ∷ []) history in omega (arith, few, acked, pushed_then)

  -- the number that a poll saw is that of the last push
  module _ (l : HasLearnt m.events o.past.events) (n : ℕ) (x : Option FastState) (items : List (Option ServerState)) (rest : Polled) (list : o'.past.events ++ observer.Learn d ∷ [] ≡ o.past.events ++ SawNext n x items ∷ rest) where
    abbrev seen_last : Type 0
    seen_last = (n ≡ (mutated first (m.events ++ mutator.Learn c ∷ [])).pushed) × IfSome x (λ s. (s ≡ (mutated first (m.events ++ mutator.Learn c ∷ [])).last) × (items ≡ (mutated first (m.events ++ mutator.Learn c ∷ [])).items))

    pub sees_all : seen_last
    sees_all =
        let ms : Pushed = m.events ++ mutator.Learn c ∷ [] in
        let more : Pushed = l.more ++ mutator.Learn c ∷ [] in
        let parts : ms ≡ l.told ++ more = ap (λ (es : Pushed). es ++ mutator.Learn c ∷ []) l.parts ∙ append_assoc l.told l.more (mutator.Learn c ∷ []) in
        let none : list_any is_push more ≡ false = list_any-append is_push l.more (mutator.Learn c ∷ []) ∙ ap (λ (b : Bool). b || false) l.none_pushed in
        let all : HasStateHistory first ms ((l.before ++ observer.Learn l.count ∷ []) ++ SawNext n x items ∷ rest) =
        subst (λ (es : Polled). HasStateHistory first ms es) (list ∙ ap (λ (es : Polled). es ++ SawNext n x items ∷ rest) l.learnt) history in
        sees_the_last first ms l.told more l.before rest l.count n x items all parts l.enough none

  -- a poll found nothing new, or it took the last state that was pushed
  pub record Finds : Type 0 where
    pub all : o'.past.number ≡ m.number
    pub state : (o' ≡ sees_same o) ⊎ ((0 < m.number) × (o'.past.state ≡ m.last))

  same_list : o' ≡ sees_same o → o'.past.events ++ observer.Learn d ∷ [] ≡ o.past.events ++ SawNext o.past.number None [] ∷ observer.Learn d ∷ []
  same_list is = ap (λ (y : Observes ServerState StreamNames). y.past.events ++ observer.Learn d ∷ []) is ∙ append_assoc o.past.events (SawNext o.past.number None [] ∷ []) (observer.Learn d ∷ [])

  finds_same : (m.number ≡ 0) ⊎ HasLearnt m.events o.past.events → o' ≡ sees_same o → Finds
  finds_same knows is = record { all = ⊎_elim none some knows; state = inl is }
    where
      number : o'.past.number ≡ o.past.number
      number = ap (λ (y : Observes ServerState StreamNames). y.past.number) is

      none : m.number ≡ 0 → o'.past.number ≡ m.number
      none zero = omega (arith, zero, few_polled)

      some : HasLearnt m.events o.past.events → o'.past.number ≡ m.number
      some l = number ∙ (sees_all l o.past.number None [] (observer.Learn d ∷ []) (same_list is)).0 ∙ pushed_then

  module _ (x : FastState) (came back : List (Option ServerState)) (is : o'.past ≡ acknowledged back (took x came o.past)) where
    new_number : o'.past.number ≡ o.past.number + 1
    new_number = ap (λ (y : Polls ServerState StreamNames). y.number) is

    new_state : o'.past.state ≡ x
    new_state = ap (λ (y : Polls ServerState StreamNames). y.state) is

    pub new_list : o'.past.events ++ observer.Learn d ∷ [] ≡ o.past.events ++ SawNext (o.past.number + 1) (Some x) came ∷ Ack (o.past.number + 1) back ∷ observer.Learn d ∷ []
    new_list =
        ap (λ (y : Polls ServerState StreamNames). y.events ++ observer.Learn d ∷ []) is
        ∙ append_assoc (o.past.events ++ SawNext (o.past.number + 1) (Some x) came ∷ []) (Ack (o.past.number + 1) back ∷ []) (observer.Learn d ∷ [])
        ∙ append_assoc o.past.events (SawNext (o.past.number + 1) (Some x) came ∷ []) (Ack (o.past.number + 1) back ∷ observer.Learn d ∷ [])

    finds_new : (m.number ≡ 0) ⊎ HasLearnt m.events o.past.events → Finds
    finds_new knows = ⊎_elim none some knows
      where
        none : m.number ≡ 0 → Finds
        none zero = absurd (omega (arith, zero, few_polled, new_number))

        some : HasLearnt m.events o.past.events → Finds
        some l =
            let seen = sees_all l (o.past.number + 1) (Some x) came (Ack (o.past.number + 1) back ∷ observer.Learn d ∷ []) new_list in
            let all : o'.past.number ≡ m.number = new_number ∙ seen.0 ∙ pushed_then in
            let positive : 0 < m.number = omega (arith, all, new_number) in
            record { all = all; state = inr (positive, new_state ∙ seen.1.0 ∙ (tells_met m c tells).last positive first) }

  pub finds : (m.number ≡ 0) ⊎ HasLearnt m.events o.past.events → (poll : Poll) (s s' : ℕ) → WasPolled o poll o' s s' → Finds
  finds knows Nothing s s' was = finds_same knows was.1
  finds knows Same s s' was = finds_same knows was.1
  finds knows (New number) s s' was = finds_new was.1.0 was.1.1.0 was.1.1.1 (ap (λ (y : Observes ServerState StreamNames). y.past) was.1.1.2) knows

  -- an observer that has polled all finds nothing new
  pub finds_none : o.past.number ≡ m.number → (poll : Poll) (s s' : ℕ) → WasPolled o poll o' s s' → o' ≡ sees_same o
  finds_none caught Nothing s s' was = was.1
  finds_none caught Same s s' was = was.1
  finds_none caught (New number) s s' was = absurd (let new = new_number was.1.0 was.1.1.0 was.1.1.1 (ap (λ (y : Observes ServerState StreamNames). y.past) was.1.1.2) in omega (arith, new, caught, few_polled))
