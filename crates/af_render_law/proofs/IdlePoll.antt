-- A poll after a mix of the same turn finds nothing new, since nobody pushed in between: so the meetings after it show what they would have shown before it.
use Rattle.std.proofs.Common.{◌≡◌, ◌⊎◌, inl, inr, ◌<◌, true, false, List, [], ◌∷◌, ◌++◌, length, sym, ap, ◌∙◌, subst, arith}
use Rattle.af_render_law.proofs.Common.{AreSmall, AreTogether, FastState, Finds, HasStateHistory, InStep, LeadAway, Links, Met, MixerState, NormalState, Observes, Polls, Pushes, SeesOwn, ServerState, SessionState, StreamNames, TrackKept, finds, finds_none, is_over, item_at, meetings_show, observed, slot_for, step_met}
use Rattle.af_fast.specs.Mixing.{Adopts}
use Rattle.af_link.specs.PipeEnds.{SeesTaken}
use Rattle.af_model.specs.declared.states.MutatorEvent.TheVariants as mutator
use Rattle.af_model.specs.declared.states.ObserverEvent.TheVariants as observer
use Rattle.af_stateq.specs.Answers.{sees_same}

-- the queue's ends are in step, their lists have a history, and the slots of the observer's state, and of the last one pushed, lead to tracks whose proxies are away
pub record IsBetween (x : SessionState) : Type 0 where
  pub step : InStep x.normal.mutator.past x.fast.observer.past
  pub history : HasStateHistory x.normal.mutator.past.first x.normal.mutator.past.events x.fast.observer.past.events
  pub state : LeadAway x.fast.observer.past.state x.normal.tracks
  pub last : LeadAway x.normal.mutator.past.last x.normal.tracks

abbrev Watching : Type 0
Watching = Observes ServerState StreamNames

-- ## A poll and the meetings after it

module _ (links : Links) (x : SessionState) (g : MixerState) (y : SessionState) (still : AreTogether links y) (adopts : Adopts x.fast g) (on : is_over x.fast ≡ false) (met : Met (record x { fast = g }) y) (between : IsBetween x) where
  abbrev m : Pushes ServerState StreamNames
  m = x.normal.mutator.past

  abbrev o : Watching
  o = x.fast.observer

  pushed_now : y.normal.mutator.past ≡ record m { events = m.events ++ mutator.Learn (length g.observer.past.events) ∷ [] }
  pushed_now = ap (λ (n : NormalState). n.mutator.past) met.ends.normal

  pub polled_now : y.fast.observer.past ≡ record g.observer.past { events = g.observer.past.events ++ observer.Learn (length m.events) ∷ [] }
  polled_now = ap (λ (f : MixerState). f.observer.past) met.ends.fast

  history : HasStateHistory m.first (m.events ++ mutator.Learn (length g.observer.past.events) ∷ []) (g.observer.past.events ++ observer.Learn (length m.events) ∷ [])
  history = subst (λ (w : Pushes ServerState StreamNames × Polls ServerState StreamNames). HasStateHistory w.0.first w.0.events w.1.events) (λ j. (pushed_now j, polled_now j)) met.ends.histories.queue

  acked : (observed (g.observer.past.events ++ observer.Learn (length m.events) ∷ [])).acked ≡ g.observer.past.number
  acked = subst (λ (w : Polls ServerState StreamNames). (observed w.events).acked ≡ w.number) polled_now still.fast.0.observer.told.acked

  -- what the poll found
  found : Finds m.first m (length g.observer.past.events) (length m.events) o g.observer between.step.tells history acked
  found = let p = adopts.polls on in finds m.first m (length g.observer.past.events) (length m.events) o g.observer between.step.tells history acked between.step.knows p.0 p.1 p.2 p.3

  pub all_polled : g.observer.past.number ≡ m.number
  all_polled = found.all

  -- an observer that has polled all finds nothing new
  pub same_found : o.past.number ≡ m.number → g.observer ≡ sees_same o
  same_found caught = let p = adopts.polls on in finds_none m.first m (length g.observer.past.events) (length m.events) o g.observer between.step.tells history acked caught p.0 p.1 p.2 p.3

  -- the state polled is the one before or the last that was pushed
  polled_state : (P : FastState → Type 0) → P o.past.state → P m.last → P g.observer.past.state
  polled_state P old last = by_case found.state
    where
      by_case : (g.observer ≡ sees_same o) ⊎ ((0 < m.number) × (g.observer.past.state ≡ m.last)) → P g.observer.past.state
      by_case (inl same) = subst P (sym (ap (λ (w : Watching). w.past.state) same)) old
      by_case (inr new) = subst P (sym new.1) last

  -- if all is polled, the state polled is the last one
  polled_last : 0 < m.number → g.observer.past.number ≡ m.number → g.observer.past.state ≡ m.last
  polled_last some all = by_case found.state
    where
      by_case : (g.observer ≡ sees_same o) ⊎ ((0 < m.number) × (g.observer.past.state ≡ m.last)) → g.observer.past.state ≡ m.last
      by_case (inl same) = ap (λ (w : Watching). w.past.state) same ∙ between.step.same some (sym (ap (λ (w : Watching). w.past.number) same) ∙ all)
      by_case (inr new) = new.1

  tracks_now : y.normal.tracks ≡ x.normal.tracks
  tracks_now = ap (λ (n : NormalState). n.tracks) met.ends.normal

  -- the queue's ends stay in step, and the slots lead to tracks whose proxies are away
  pub between_met : IsBetween y
  between_met = record {
    step = subst (λ (w : Pushes ServerState StreamNames × Polls ServerState StreamNames). InStep w.0 w.1) (λ j. (sym pushed_now j, sym polled_now j))
        (step_met m (length g.observer.past.events) g.observer.past between.step.tells (let a = all_polled in omega (arith, a)) polled_last);
    history = met.ends.histories.queue;
    state = subst (λ (w : FastState × List TrackKept). LeadAway w.0 w.1) (λ j. (sym (ap (λ (p : Polls ServerState StreamNames). p.state) polled_now) j, sym tracks_now j)) (polled_state (λ (z : FastState). LeadAway z x.normal.tracks) between.state between.last);
    last = subst (λ (w : FastState × List TrackKept). LeadAway w.0 w.1) (λ j. (sym (ap (λ (p : Pushes ServerState StreamNames). p.last) pushed_now) j, sym tracks_now j)) between.last;
  }

  -- all is polled after the meetings
  pub caught_met : y.fast.observer.past.number ≡ y.normal.mutator.past.number
  caught_met = ap (λ (p : Polls ServerState StreamNames). p.number) polled_now ∙ all_polled ∙ sym (ap (λ (p : Pushes ServerState StreamNames). p.number) pushed_now)

  -- the state polled leads to tracks whose proxies are away before the meetings too
  pub lead_polled : LeadAway g.observer.past.state x.normal.tracks
  lead_polled = polled_state (λ (z : FastState). LeadAway z x.normal.tracks) between.state between.last

-- ## The meetings after a turn

-- the meetings after a turn leave the queue's ends in step
pub between_after : (links : Links) (x y : SessionState) → AreTogether links y → Met x y → IsBetween x → IsBetween y
between_after links x y still met b =
    let m : Pushes ServerState StreamNames = x.normal.mutator.past in
    let o : Polls ServerState StreamNames = x.fast.observer.past in
    let pushed : y.normal.mutator.past ≡ record m { events = m.events ++ mutator.Learn (length o.events) ∷ [] } = ap (λ (n : NormalState). n.mutator.past) met.ends.normal in
    let polled : y.fast.observer.past ≡ record o { events = o.events ++ observer.Learn (length m.events) ∷ [] } = ap (λ (f : MixerState). f.observer.past) met.ends.fast in
    let tracks : y.normal.tracks ≡ x.normal.tracks = ap (λ (n : NormalState). n.tracks) met.ends.normal in
    record {
      step = subst (λ (w : Pushes ServerState StreamNames × Polls ServerState StreamNames). InStep w.0 w.1) (λ j. (sym pushed j, sym polled j)) (step_met m (length o.events) o b.step.tells b.step.few b.step.same);
      history = met.ends.histories.queue;
      state = subst (λ (w : FastState × List TrackKept). LeadAway w.0 w.1) (λ j. (sym (ap (λ (p : Polls ServerState StreamNames). p.state) polled) j, sym tracks j)) b.state;
      last = subst (λ (w : FastState × List TrackKept). LeadAway w.0 w.1) (λ j. (sym (ap (λ (p : Pushes ServerState StreamNames). p.last) pushed) j, sym tracks j)) b.last;
    }

-- ## What is shown after a poll that found nothing new

-- a poll that found nothing new leaves the mixer's items, its state and its pipe
pub idle_shows : (x : SessionState) (g : MixerState) → g ≡ record x.fast { observer = g.observer; adopted = true } → g.observer ≡ sees_same x.fast.observer → SeesOwn (record x { fast = g }) → SeesOwn x
idle_shows x g same idle shows = record {
  homes = shows.homes;
  held = (λ i p s there tame is. shows.held i p s there tame (ap (λ (w : Watching). item_at w.items (slot_for w.past.state i)) idle ∙ is));
  commands = shows.commands;
  pipe = subst (λ (f : MixerState). SeesTaken 0 f.pipe.pass.part.events) same shows.pipe;
}

module _ (links : Links) (x : SessionState) (g : MixerState) (y : SessionState) (polled : AreTogether links (record x { fast = g })) (still : AreTogether links y) (adopts : Adopts x.fast g) (on : is_over x.fast ≡ false) (met : Met (record x { fast = g }) y)
    (between : IsBetween x) (caught : x.fast.observer.past.number ≡ x.normal.mutator.past.number) (small : AreSmall x) where
  -- the meetings after such a poll show what each server saw before it
  pub idle_meetings_show : SeesOwn x
  idle_meetings_show =
      idle_shows x g adopts.same (same_found links x g y still adopts on met between caught)
      (meetings_show links (record x { fast = g }) y (record { streams = small.streams; commands = small.commands }) polled still (lead_polled links x g y still adopts on met between) met)
