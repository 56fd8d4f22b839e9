-- What stands between two rounds stands again after a round of a client, a turn of the normal mixer, and a round in which nothing is done.
use Rattle.std.proofs.Common.{◌≡◌, ℕ, ◌<◌, ◌≤◌, Bool, true, false, MatchBool, List, [], ◌∷◌, ◌++◌, length, refl, sym, ap, subst, ◌∙◌, arith}
use Rattle.af_render_law.proofs.Common.{AreTogether, FastState, Given, HasStateHistory, InStep, IsInOrder, IsLegal, IsQuiet, IsRound, Leads, Links, Met, MixerState, NormalKept, NormalState, NormalTurned, Outside, Polls, Pushes, RoundNoted, ServerState, SessionState, StandsBetween, StreamNames, Turn, ends_keep, kept_of, learnt, learnt_by, normal_round, observed, step_met, still_round, tells_met, turn_of, turn_quiet}
use Rattle.af_model.specs.declared.states.MutatorEvent.{MutatorEvent}
use Rattle.af_model.specs.declared.states.MutatorEvent.TheVariants as mutator
use Rattle.af_model.specs.declared.states.ObserverEvent.{ObserverEvent}
use Rattle.af_model.specs.declared.states.ObserverEvent.TheVariants as observer
use Rattle.af_normal.specs.State.{setup_of}
use Rattle.af_script.specs.declared.op.TurnSpec.TheVariants as spec
use Rattle.af_told_law.specs.Leads.{Tells}
use Rattle.af_session.specs.Rounds.{with_ends}
use Rattle.af_told_law.proofs.NormalSteps.{turn_same, turn_tells, turned_leads}
use Rattle.af_told_law.proofs.QueueSeen.{SawUpTo, few_acked, few_seen}

-- a turn of the normal mixer leaves what is quiet so
pub quiet_turned : (o : Outside) (x n : NormalState) → IsLegal o x n → IsQuiet (kept_of x) → IsQuiet (kept_of n)
quiet_turned o x n legal quiet = subst IsQuiet (sym legal.leaves) (turn_quiet (setup_of x) (learnt o) (kept_of x) (turn_of n.entry) quiet)

-- ## The meetings and ends of a round

module _ (turned met t : SessionState) (meets : Met turned met) (ends : t ≡ with_ends met) (order : IsInOrder met.fast) where
  pub same_normal : t.normal ≡ met.normal
  same_normal = ap (λ (x : SessionState). x.normal) ends ∙ (ends_keep met).normal

  pub same_fast : t.fast ≡ met.fast
  same_fast = ap (λ (x : SessionState). x.fast) ends ∙ (ends_keep met).fast

  abbrev ms : List (MutatorEvent ServerState)
  ms = turned.normal.mutator.past.events ++ mutator.Learn (length turned.fast.observer.past.events) ∷ []

  abbrev os : List (ObserverEvent ServerState)
  os = turned.fast.observer.past.events ++ observer.Learn (length turned.normal.mutator.past.events) ∷ []

  pushed_after : t.normal.mutator.past ≡ learnt_by turned.normal.mutator.past (length turned.fast.observer.past.events)
  pushed_after = ap (λ (m : NormalState). m.mutator.past) (same_normal ∙ meets.ends.normal)

  polled_after : t.fast.observer.past ≡ record turned.fast.observer.past { events = os }
  polled_after = ap (λ (m : MixerState). m.observer.past) (same_fast ∙ meets.ends.fast)

  kept_after : kept_of t.normal ≡ kept_of turned.normal
  kept_after = ap kept_of (same_normal ∙ meets.ends.normal)

  history : HasStateHistory turned.normal.mutator.past.first ms os
  history = subst (λ (y : Pushes ServerState StreamNames × Polls ServerState StreamNames). HasStateHistory y.0.first y.0.events y.1.events)
      (λ j. (ap (λ (m : NormalState). m.mutator.past) meets.ends.normal j, ap (λ (m : MixerState). m.observer.past) meets.ends.fast j)) meets.ends.histories.queue

  history_after : HasStateHistory t.normal.mutator.past.first t.normal.mutator.past.events t.fast.observer.past.events
  history_after = subst (λ (y : Pushes ServerState StreamNames × Polls ServerState StreamNames). HasStateHistory y.0.first y.0.events y.1.events) (λ j. (sym pushed_after j, sym polled_after j)) history

  acked : (observed os).acked ≡ turned.fast.observer.past.number
  acked = subst (λ (y : Polls ServerState StreamNames). (observed y.events).acked ≡ y.number) (ap (λ (m : MixerState). m.observer.past) meets.ends.fast) order.observer.told.acked

  -- no look of the mutator saw more acknowledged than the observer has polled
  pub saw_after : SawUpTo turned.fast.observer.past.number ms
  saw_after = subst (λ (k : ℕ). SawUpTo k ms) acked (few_seen turned.normal.mutator.past.first _ _ history)

  abbrev Same : Type 0
  Same = 0 < turned.normal.mutator.past.number → turned.fast.observer.past.number ≡ turned.normal.mutator.past.number → turned.fast.observer.past.state ≡ turned.normal.mutator.past.last

  -- what the turn left stands after the meetings
  pub stands_after : Tells turned.normal.mutator.past → Same → Leads turned.fast.observer.past.state (kept_of turned.normal) → IsQuiet (kept_of turned.normal) → StandsBetween t
  stands_after tells same leads quiet =
      let m = turned.normal.mutator.past in
      let pushed = (tells_met m (length turned.fast.observer.past.events) tells).pushed m.first in
      let few = few_acked m.first _ _ history in
      let fewer : turned.fast.observer.past.number ≤ m.number = omega (arith, few, acked, pushed) in
      record {
        step = subst (λ (y : Pushes ServerState StreamNames × Polls ServerState StreamNames). InStep y.0 y.1) (λ j. (sym pushed_after j, sym polled_after j))
            (step_met m (length turned.fast.observer.past.events) turned.fast.observer.past tells fewer same);
        history = history_after;
        leads = subst (λ (y : FastState × NormalKept). Leads y.0 y.1) (λ j. (sym (ap (λ (o : Polls ServerState StreamNames). o.state) polled_after) j, sym kept_after j)) leads;
        quiet = subst IsQuiet (sym kept_after) quiet;
      }

-- ## Rounds

module _ (g : Given) (s : SessionState) (r : RoundNoted) (bytes : List ℕ) (t : SessionState) (before : StandsBetween s) where
  -- what stands after a round in which both mixers did nothing
  pub still_stands : (turned met : SessionState) → Met turned met → t ≡ with_ends met → IsInOrder met.fast → turned.normal ≡ s.normal → turned.fast ≡ s.fast → StandsBetween t
  still_stands turned met meets ends order normal fast =
      let both : (s.normal ≡ turned.normal) × (s.fast ≡ turned.fast) = (sym normal, sym fast) in
      stands_after turned met t meets ends order (subst (λ (m : NormalState). Tells m.mutator.past) both.0 before.step.tells)
      (subst (λ (y : NormalState × MixerState). 0 < y.0.mutator.past.number → y.1.observer.past.number ≡ y.0.mutator.past.number → y.1.observer.past.state ≡ y.0.mutator.past.last) (λ j. (both.0 j, both.1 j)) before.step.same)
      (subst (λ (y : NormalState × MixerState). Leads y.1.observer.past.state (kept_of y.0)) (λ j. (both.0 j, both.1 j)) before.leads)
      (subst (λ (m : NormalState). IsQuiet (kept_of m)) both.0 before.quiet)

  pub client_stands : (i : ℕ) → IsRound g (spec.Client i) s r bytes t → StandsBetween t
  client_stands i w = let one = w.turns.3 in
      still_stands w.turned w.met w.meets w.ends w.together.met.fast.0 (ap (λ (x : SessionState). x.normal) one.leaves) (ap (λ (x : SessionState). x.fast) one.leaves)

  -- what stands after a round of the normal mixer
  pub normal_stands : IsRound g spec.Normal s r bytes t → StandsBetween t
  normal_stands w = by_ended s.normal.ended w.turns.1
    where
      by_ended : (b : Bool) → MatchBool b ((r ≡ still_round s) × (w.turned ≡ s)) ((e : Turn) × (r ≡ normal_round s e) × NormalTurned s w.turned e) → StandsBetween t
      by_ended true none = still_stands w.turned w.met w.meets w.ends w.together.met.fast.0 (ap (λ (x : SessionState). x.normal) none.1) (ap (λ (x : SessionState). x.fast) none.1)
      by_ended false (e, r_is, one) =
          let turned : SessionState = w.turned in
          let links : Links = w.together.links in
          let fast : turned.fast ≡ s.fast = ap (λ (x : SessionState). x.fast) one.leaves in
          let o = s.fast.observer.past in
          let past : turned.fast.observer.past ≡ o = ap (λ (m : MixerState). m.observer.past) fast in
          let order = w.together.before.normal in
          let tells = turn_tells links s.normal turned.normal order one.outside one.legal before.step.tells in
          let same = turn_same links s.normal turned.normal order one.outside one.legal o.state o.number before.step.few before.step.same in
          let saw = subst (λ (k : ℕ). SawUpTo k (turned.normal.mutator.past.events ++ mutator.Learn (length turned.fast.observer.past.events) ∷ [])) (ap (λ (y : Polls ServerState StreamNames). y.number) past)
          (saw_after turned w.met t w.meets w.ends w.together.met.fast.0) in
          let leads = turned_leads links s.normal turned.normal order one.outside one.legal o.state o.number before.step.few before.step.same w.together.before.fast.0.begins (length turned.fast.observer.past.events) saw before.leads in
          stands_after turned w.met t w.meets w.ends w.together.met.fast.0 tells
          (subst (λ (y : Polls ServerState StreamNames). 0 < turned.normal.mutator.past.number → y.number ≡ turned.normal.mutator.past.number → y.state ≡ turned.normal.mutator.past.last) (sym past) same)
          (subst (λ (y : Polls ServerState StreamNames). Leads y.state (kept_of turned.normal)) (sym past) leads)
          (quiet_turned one.outside s.normal turned.normal one.legal before.quiet)

-- ## A turn of the normal mixer before the meetings

-- the slots of states lead to tracks that are away before the meetings
pub leads_turned : (links : Links) (x : SessionState) (n : NormalState) (z : SessionState) (o : Outside) → AreTogether links x → IsLegal o x.normal n → StandsBetween x → Met (record x { normal = n }) z → AreTogether links z → Leads x.fast.observer.past.state (kept_of n)
leads_turned links x n z o before legal stands meets after =
    let saw = saw_after (record x { normal = n }) z (with_ends z) meets refl after.fast.0 in
    turned_leads links x.normal n before.normal o legal x.fast.observer.past.state x.fast.observer.past.number stands.step.few stands.step.same before.fast.0.begins (length x.fast.observer.past.events) saw stands.leads
