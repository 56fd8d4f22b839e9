-- A poll finds the last state pushed, if its observer had learnt of all pushes: so the poll is told, with the meetings after it.
use Rattle.std.proofs.Common.{◌≡◌, ⊎_elim, ◌+◌, false, List, [], ◌∷◌, ◌++◌, length, Option, Some, ap, subst, ◌∙◌, arith}
use Rattle.af_told_law.proofs.Common.{Adopts, AreTogether, FastState, HasStateHistory, HaveHistories, Links, Met, MixerState, MutatorEvent, MutatorPoint, NormalState, ObserverEvent, ObserverPoint, Polls, Pushes, Run, ServerState, Session, SessionState, StreamNames, acknowledged, false_from_ne_true, fold-append, is_over, mutated, mutator_next, mutator_start, observed, observer_next, observer_start, took, with_poll}
use Rattle.af_told_law.specs.Leads.{HasLearnt, InStep, LeadAway}
use Rattle.af_model.specs.declared.states.MutatorEvent.TheVariants as mutator
use Rattle.af_model.specs.declared.states.ObserverEvent.TheVariants as observer
use Rattle.af_runs.specs.Runs as run_of
use Rattle.af_told_law.specs.Tells.{Tells, items_sent, mutated_by}
use Rattle.af_told_law.proofs.PollNew.{FindsLast, polled_told}
use Rattle.af_told_law.proofs.AllMeet.{MetTold, met_histories, tells_met}
use Rattle.af_told_law.specs.Deeds.{Deeds}
use Rattle.af_told_law.proofs.TrackMeets.{deeds_met}
use Rattle.af_told_law.proofs.QueueLooks.{history_sane}
use Rattle.af_told_law.proofs.QueueSteps.{few_polled, finds, new_list, sees_all}

abbrev Pushed : Type 0
Pushed = List (MutatorEvent ServerState)

abbrev Polled : Type 0
Polled = List (ObserverEvent ServerState)

module _ (links : Links) (x : SessionState) (g : MixerState) (y : SessionState) (together : AreTogether links x) (polled : AreTogether links (record x { fast = g })) (adopts : Adopts x.fast g) (on : is_over x.fast ≡ false)
    (met : Met (record x { fast = g }) y) (step : InStep x.normal.mutator.past x.fast.observer.past) (before : HasStateHistory x.normal.mutator.past.first x.normal.mutator.past.events x.fast.observer.past.events) where
  abbrev m : Pushes ServerState StreamNames
  m = x.normal.mutator.past

  abbrev o : Polls ServerState StreamNames
  o = x.fast.observer.past

  abbrev p : Polls ServerState StreamNames
  p = g.observer.past

  abbrev ms : Pushed
  ms = m.events ++ mutator.Learn (length p.events) ∷ []

  abbrev os : Polled
  os = p.events ++ observer.Learn (length m.events) ∷ []

  history : HasStateHistory m.first ms os
  history = subst (λ (w : NormalState × MixerState). HasStateHistory w.0.mutator.past.first w.0.mutator.past.events w.1.observer.past.events) (λ j. (met.ends.normal j, met.ends.fast j)) met.ends.histories.queue

  abbrev left : MutatorPoint ServerState
  left = mutated m.first ms

  left_is : left ≡ mutator_next (mutated m.first m.events) (mutator.Learn (length p.events))
  left_is = fold-append mutator_next (mutator_start m.first) m.events (mutator.Learn (length p.events) ∷ [])

  pushed_is : left.pushed ≡ m.number
  pushed_is = ap (λ (q : MutatorPoint ServerState). q.pushed) left_is ∙ step.tells.pushed m.first

  acked : (observed os).acked ≡ p.number
  acked = ap (λ (q : ObserverPoint ServerState). q.acked) (fold-append observer_next observer_start p.events (observer.Learn (length m.events) ∷ [])) ∙ polled.fast.0.observer.told.acked

  -- the observer had learnt of all pushes, if it took one
  has_learnt : p.number ≡ o.number + 1 → HasLearnt m.events o.events
  has_learnt one_more = ⊎_elim (λ (none : m.number ≡ 0). absurd (let f = few_polled m.first m (length p.events) (length m.events) x.fast.observer g.observer step.tells history acked in omega (arith, f, none, one_more))) (λ (l : HasLearnt m.events o.events). l) step.knows

  finds_new : (z : FastState) (came back : List (Option ServerState)) → p ≡ acknowledged back (took z came o) → (z ≡ m.last) × (came ≡ items_sent x.normal) × ((mutated_by x.normal).clear ≡ false)
  finds_new z came back is =
      let one_more : p.number ≡ o.number + 1 = ap (λ (q : Polls ServerState StreamNames). q.number) is in
      let seen = sees_all m.first m (length p.events) (length m.events) x.fast.observer g.observer step.tells history acked (has_learnt one_more) (o.number + 1) (Some z) came (observer.Ack (o.number + 1) back ∷ observer.Learn (length m.events) ∷ []) (new_list m.first m (length p.events) (length m.events) x.fast.observer g.observer step.tells history acked z came back is) in
      let all : o.number + 1 ≡ m.number = seen.0 ∙ pushed_is in (
        seen.1.0 ∙ ap (λ (q : MutatorPoint ServerState). q.last) left_is ∙ step.tells.last (omega (arith, all)) m.first,
        seen.1.1 ∙ ap (λ (q : MutatorPoint ServerState). q.items) left_is,
        false_from_ne_true (mutated_by x.normal).clear (λ c. let e = (history_sane m.first m.events o.events before).seen c in let a = together.fast.0.observer.told.acked in let b = step.tells.pushed m.first in omega (arith, e, a, b, all)),
      )

  pub finds_last : FindsLast x.normal x.fast g
  finds_last = let q = adopts.polls on in record { number = (finds m.first m (length p.events) (length m.events) x.fast.observer g.observer step.tells history acked step.knows q.0 q.1 q.2 q.3).all; new = finds_new }

-- ## The poll and the meetings

module _ (links : Links) (s : Session) (run : Run) {d : Deeds} (x : SessionState) (g : MixerState) (y : SessionState) (h : Tells s run d x) (together : AreTogether links x) (polled : AreTogether links (record x { fast = g })) (still : AreTogether links y)
    (lead : LeadAway x.fast.observer.past.state x.normal.tracks) (lead_last : LeadAway x.normal.mutator.past.last x.normal.tracks) (step : InStep x.normal.mutator.past x.fast.observer.past)
    (before : HasStateHistory x.normal.mutator.past.first x.normal.mutator.past.events x.fast.observer.past.events) (on : is_over x.fast ≡ false) (adopts : Adopts x.fast g) (met : Met (record x { fast = g }) y) where
  abbrev then_run : Run
  then_run = with_poll s g.observer.past.number run

  told : Tells s then_run d (record x { fast = g })
  told = polled_told links s run x g h together lead lead_last adopts (finds_last links x g y together polled adopts on met step before) on

  pub poll_met : Tells s (run_of.met s then_run) (deeds_met s then_run d) y × (MetTold s then_run d → HaveHistories s (run_of.met s then_run))
  poll_met = (tells_met links s then_run (record x { fast = g }) y polled still told met, met_histories links s then_run (record x { fast = g }) y polled still told met)
