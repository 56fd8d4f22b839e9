-- The queue in a round of all parties, by its one meeting: what each poll finds, and what stands before the push.
use Rattle.std.proofs.Common.{◌≡◌, ◌⊎◌, inl, inr, ⊎_elim, ℕ, ◌+◌, ◌<◌, ◌≤◌, false, [], ◌∷◌, ◌++◌, length, length-append, append_assoc, refl, sym, ap, subst, ◌∙◌, arith}
use Rattle.af_play_law.proofs.Common.{Ack, Adopts, EndsMet, FastState, FindsLast, HasStateHistory, HasLearnt, MixerState, NormalState, ObserverPoint, Polls, Pushes, SawNext, SawUpTo, ServerState, SessionState, StandsBetween, StreamNames, add_one, cases_lt, few_seen, fold-append, is_over, is_push, legal, list_any, mutated, next, observed, observer_next, observer_start, start_of_queue}
use Rattle.af_model.specs.declared.states.MutatorEvent.TheVariants as mutator
use Rattle.af_model.specs.declared.states.ObserverEvent.TheVariants as observer
use Rattle.af_told_law.specs.Leads.{Tells}
use Rattle.af_play_law.specs.Polls.{ComesBehind, GrowsByTurn, Items, Polled, Pushed}
use Rattle.af_play_law.proofs.CutBehind.{cut_behind}
use Rattle.af_play_law.proofs.PollsAt.{looks_at}
use Rattle.af_play_law.proofs.PushesRise.{Numbered, none_more_then, numbered, push_number}
use Rattle.af_play_law.proofs.QueueGoesOn.{one_on}
use Rattle.af_play_law.proofs.RoundPolls.{PollAdds, finds_last, history_polled, poll_adds}
use Rattle.af_play_law.proofs.RoundQueue.{grown_by, met_of, none_earlier, none_later, one_more}

-- what an observer did next began with a look at a later state than n, or it was nothing
abbrev pub ComesLate : ℕ → Polled → Type 0
ComesLate n [] = Unit {0}
ComesLate n (SawNext k x items ∷ os) = n < k
ComesLate n (Ack k items ∷ os) = ⊥
ComesLate n (observer.Learn c ∷ os) = ⊥

-- The parties x made their turns, by which they were u, and the mixers' ends met
module _ (x u z : SessionState) (ends : EndsMet u.normal z.normal u.fast z.fast) (between : StandsBetween x) (same_first : u.normal.mutator.past.first ≡ x.normal.mutator.past.first) (grows : GrowsByTurn x.normal.mutator.past.events u.normal.mutator.past.events) where
  abbrev m : Pushes ServerState StreamNames
  m = x.normal.mutator.past

  abbrev n : Pushes ServerState StreamNames
  n = u.normal.mutator.past

  abbrev o : Polls ServerState StreamNames
  o = u.fast.observer.past

  -- all that the two ends did
  abbrev pushes : Pushed
  pushes = n.events ++ met_of (length o.events)

  abbrev polls : Polled
  polls = o.events ++ observer.Learn (length n.events) ∷ []

  whole : HasStateHistory m.first pushes polls
  whole = subst (λ (f : FastState). HasStateHistory f pushes polls) same_first
      (subst (λ (w : Pushes ServerState StreamNames × Polls ServerState StreamNames). HasStateHistory w.0.first w.0.events w.1.events) (λ j. (ap (λ (s : NormalState). s.mutator.past) ends.normal j, ap (λ (s : MixerState). s.observer.past) ends.fast j)) ends.histories.queue)

  turn : (es : Pushed) × (n.events ≡ m.events ++ es)
  turn = grown_by m.events n.events grows

  parts : pushes ≡ m.events ++ (turn.0 ++ met_of (length o.events))
  parts = ap (λ (l : Pushed). l ++ met_of (length o.events)) turn.1 ∙ append_assoc m.events turn.0 (met_of (length o.events))

  pushed_before : (mutated m.first m.events).pushed ≡ m.number
  pushed_before = between.step.tells.pushed m.first

  knows : ((mutated m.first m.events).pushed ≡ 0) ⊎ HasLearnt m.events x.fast.observer.past.events
  knows = ⊎_elim (λ (none : m.number ≡ 0). inl (pushed_before ∙ none)) (λ (l : HasLearnt m.events x.fast.observer.past.events). inr l) between.step.knows

  -- no more than one state was pushed
  few : (mutated m.first pushes).pushed ≤ m.number + 1
  few =
      let most = one_more m.first m.events n.events (met_of (length o.events)) polls grows whole in
      let none = none_more_then m.first n.events (met_of (length o.events)) refl in
      let is = pushed_before in
      omega (arith, most, none, is)

  -- ## A poll of the round

  module _ (f g : MixerState) (adopts : Adopts f g) (on : is_over f ≡ false) (acked : (observed f.observer.past.events).acked ≡ f.observer.past.number)
      (since rest : Polled) (from : f.observer.past.events ≡ x.fast.observer.past.events ++ since) (goes : o.events ≡ g.observer.past.events ++ rest) where
    abbrev behind : Polled
    behind = rest ++ observer.Learn (length n.events) ∷ []

    whole_polled : HasStateHistory m.first pushes (g.observer.past.events ++ behind)
    whole_polled = subst (HasStateHistory m.first pushes) (ap (λ (l : Polled). l ++ observer.Learn (length n.events) ∷ []) goes ∙ append_assoc g.observer.past.events rest (observer.Learn (length n.events) ∷ [])) whole

    added : PollAdds f.observer.past g.observer.past
    added = let q = adopts.polls on in poll_adds f.observer g.observer q.0 q.1 q.2 q.3

    whole_look : HasStateHistory m.first pushes (f.observer.past.events ++ SawNext g.observer.past.number added.state added.items ∷ (added.more ++ behind))
    whole_look = subst (HasStateHistory m.first pushes)
        (ap (λ (l : Polled). l ++ behind) added.list ∙ append_assoc f.observer.past.events (SawNext g.observer.past.number added.state added.items ∷ added.more) behind)
        whole_polled

    no_earlier : m.number ≤ g.observer.past.number
    no_earlier =
        let low = none_earlier m.first pushes m.events (turn.0 ++ met_of (length o.events)) parts f.observer.past.events g.observer.past.number added.state added.items (added.more ++ behind) whole_look x.fast.observer.past.events since from knows in
        let is = pushed_before in
        omega (arith, low, is)

    no_later : g.observer.past.number ≤ (mutated m.first pushes).pushed
    no_later = none_later m.first pushes m.events (turn.0 ++ met_of (length o.events)) parts f.observer.past.events g.observer.past.number added.state added.items (added.more ++ behind) whole_look

    -- the poll finds the last state pushed before the round, or the next one
    pub no_third : (g.observer.past.number ≡ m.number) ⊎ (g.observer.past.number ≡ m.number + 1)
    no_third =
        let low = no_earlier in let high = no_later in let most = few in
        ⊎_elim (λ (more : m.number < g.observer.past.number). inr (omega (arith, more, high, most))) (λ (same : g.observer.past.number ≤ m.number). inl (omega (arith, same, low))) (cases_lt m.number g.observer.past.number)

    -- a poll that finds no later state than those pushed before the round finds the last of these, and the history goes on by it
    pub early_poll : HasStateHistory m.first m.events f.observer.past.events → g.observer.past.number ≤ m.number → FindsLast x.normal f g × HasStateHistory m.first m.events g.observer.past.events
    early_poll before early =
        let low = no_earlier in
        let number : g.observer.past.number ≡ m.number = omega (arith, low, early) in (
          finds_last x.normal f g adopts on between.step.tells acked pushes (turn.0 ++ met_of (length o.events)) parts behind whole_polled before number,
          history_polled x.normal f g adopts on between.step.tells acked pushes (turn.0 ++ met_of (length o.events)) parts behind whole_polled before number,
        )

    -- a poll that finds a later state finds the one that the turn pushed
    pub late_poll : Tells n → HasStateHistory m.first n.events f.observer.past.events → m.number < g.observer.past.number → FindsLast u.normal f g × HasStateHistory m.first n.events g.observer.past.events
    late_poll tells before late =
        let high = no_later in let most = few in
        let none = none_more_then m.first n.events (met_of (length o.events)) refl in
        let is = tells.pushed m.first in
        let number : g.observer.past.number ≡ n.number = omega (arith, high, most, none, is, late) in
        let whole_u : HasStateHistory n.first pushes (g.observer.past.events ++ behind) = subst (λ (s : FastState). HasStateHistory s pushes (g.observer.past.events ++ behind)) (sym same_first) whole_polled in
        let before_u : HasStateHistory n.first n.events f.observer.past.events = subst (λ (s : FastState). HasStateHistory s n.events f.observer.past.events) (sym same_first) before in (
          finds_last u.normal f g adopts on tells acked pushes (met_of (length o.events)) refl behind whole_u before_u number,
          subst (λ (s : FastState). HasStateHistory s n.events g.observer.past.events) same_first (history_polled u.normal f g adopts on tells acked pushes (met_of (length o.events)) refl behind whole_u before_u number),
        )

  -- ## The push

  -- Between the early polls, by which the observer had done es, and the late ones, ls
  module _ (es ls : Polled) (cut : o.events ≡ es ++ ls) (before : HasStateHistory m.first m.events es) (late : ComesLate m.number ls) where
    abbrev rest : Polled
    rest = ls ++ observer.Learn (length n.events) ∷ []

    whole_cut : HasStateHistory m.first pushes (es ++ rest)
    whole_cut = subst (HasStateHistory m.first pushes) (ap (λ (l : Polled). l ++ observer.Learn (length n.events) ∷ []) cut ∙ append_assoc es ls (observer.Learn (length n.events) ∷ [])) whole

    -- the observer owes nothing before the late polls
    owes : (observed es).due ≡ 0
    owes = by_next ls late whole_cut
      where
        by_next : (ls : Polled) → ComesLate m.number ls → HasStateHistory m.first pushes (es ++ (ls ++ observer.Learn (length n.events) ∷ [])) → (observed es).due ≡ 0
        by_next [] late h = (looks_at m.first pushes es (observer.Learn (length n.events)) [] h).may.1
        by_next (SawNext k s items ∷ os) late h = (looks_at m.first pushes es (SawNext k s items) (os ++ observer.Learn (length n.events) ∷ []) h).may.3
        by_next (Ack k items ∷ os) late h = absurd late
        by_next (observer.Learn c ∷ os) late h = absurd late

    -- what was polled before the push has a history with all that the turn did
    module _ (looks : Pushed) (none : list_any is_push looks ≡ false) (k : ℕ) (y : FastState) (sent : Items) (is : n.events ≡ (m.events ++ looks) ++ mutator.Push k y sent ∷ []) where
      whole_push : HasStateHistory m.first (((m.events ++ looks) ++ mutator.Push k y sent ∷ []) ++ met_of (length o.events)) (es ++ rest)
      whole_push = subst (λ (l : Pushed). HasStateHistory m.first (l ++ met_of (length o.events)) (es ++ rest)) is whole_cut

      number : k ≡ m.number + 1
      number =
          push_number m.first (m.events ++ looks) (met_of (length o.events)) k y sent
          (subst (Numbered 0) (append_assoc (m.events ++ looks) (mutator.Push k y sent ∷ []) (met_of (length o.events))) (numbered m.first (((m.events ++ looks) ++ mutator.Push k y sent ∷ []) ++ met_of (length o.events)) (es ++ rest) whole_push))
          ∙ ap (λ (i : ℕ). i + 1) (none_more_then m.first m.events looks none ∙ pushed_before)

      next_behind : (ls : Polled) → ComesLate m.number ls → ComesBehind (length (m.events ++ looks)) k (ls ++ observer.Learn (length n.events) ∷ [])
      next_behind [] late = let long = ap (λ (l : Pushed). length l) is in let longer = length-append (m.events ++ looks) (mutator.Push k y sent ∷ []) in omega (arith, long, longer)
      next_behind (SawNext j s items ∷ os) late = let now = number in omega (arith, now, late)
      next_behind (Ack j items ∷ os) late = absurd late
      next_behind (observer.Learn c ∷ os) late = absurd late

      pub history_turned : HasStateHistory m.first n.events es
      history_turned = subst (λ (l : Pushed). HasStateHistory m.first l es) (sym is) (cut_behind m.first m.events looks k y sent (met_of (length o.events)) es rest whole_push before (next_behind ls late))

    -- if the turn pushed nothing, no poll is late
    pub none_late : n.events ≡ m.events ++ grows.looks → ls ≡ []
    none_late is = by_next ls late whole_cut
      where
        by_next : (ls : Polled) → ComesLate m.number ls → HasStateHistory m.first pushes (es ++ (ls ++ observer.Learn (length n.events) ∷ [])) → ls ≡ []
        by_next [] late h = refl
        by_next (SawNext k s items ∷ os) late h = absurd (
            let high = none_later m.first pushes m.events (turn.0 ++ met_of (length o.events)) parts es k s items (os ++ observer.Learn (length n.events) ∷ []) h in
            let still = none_more_then m.first n.events (met_of (length o.events)) refl in
            let same = ap (λ (l : Pushed). (mutated m.first l).pushed) is in
            let none = none_more_then m.first m.events grows.looks grows.none in
            let was = pushed_before in
            omega (arith, high, still, same, none, was, late)
            )
        by_next (Ack k items ∷ os) late h = absurd late
        by_next (observer.Learn c ∷ os) late h = absurd late

    -- the queue has a history with a meeting at the end, of which something may be known
    pub record Later : Type 0 where
      pub known_polls : ℕ
      pub known_pushes : ℕ
      pub history : HasStateHistory m.first (n.events ++ mutator.Learn known_polls ∷ []) (es ++ observer.Learn known_pushes ∷ [])

    pub later_turned : Later
    later_turned = elim (grows.ends) as (λ _. Later) [
      | inl is ↦ record {
        known_polls = length o.events;
        known_pushes = length n.events;
        history = subst (λ (l : Polled). HasStateHistory m.first pushes (es ++ (l ++ observer.Learn (length n.events) ∷ []))) (none_late is) whole_cut;
      }
      | inr push ↦
          let h : HasStateHistory m.first n.events es = history_turned grows.looks grows.none push.0 push.1 push.2 push.3 in
          let h' : HasStateHistory m.first (n.events ++ mutator.Learn 0 ∷ []) es = add_one legal next (start_of_queue m.first) n.events es (mutator.Learn 0) h (omega arith) in
          record { known_polls = 0; known_pushes = 0; history = one_on m.first (n.events ++ mutator.Learn 0 ∷ []) es (observer.Learn 0) h' (omega arith, owes) }
    ]

    -- no look of the turn saw more acknowledged than the observer had by then
    pub saw_turned : (number : ℕ) → (observed es).acked ≡ number → (l : Later) → SawUpTo number (n.events ++ mutator.Learn l.known_polls ∷ [])
    saw_turned number acked l = subst (λ (k : ℕ). SawUpTo k (n.events ++ mutator.Learn l.known_polls ∷ []))
        (ap (λ (p : ObserverPoint ServerState). p.acked) (fold-append observer_next observer_start es (observer.Learn l.known_pushes ∷ [])) ∙ acked)
        (few_seen m.first (n.events ++ mutator.Learn l.known_polls ∷ []) (es ++ observer.Learn l.known_pushes ∷ []) l.history)
