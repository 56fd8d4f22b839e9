-- A cycle of the fast mixer whose poll finds the last state pushed is told: the run with its entry tells the session, and the entry is legal by marks on whose blocks each front seen is a server's own.
use Rattle.std.proofs.Common.{◌≡◌, ℕ, ◌+◌, ◌<◌, ◌≤◌, true, false, true≢false, [], ◌∷◌, ◌++◌, length, Option, Some, None, refl, sym, ap, subst, ◌∙◌, arith}
use Rattle.af_play_law.proofs.Common.{Adopts, AreTogether, CycleEntry, Deeds, EntrySeen, FastState, FindsLast, GoOn, HasStateHistory, LeadAway, Leaves, LegalEntry, Links, Marks, MixerState, New, NormalState, Nothing, Observes, Poll, Polls, Run, Same, SawOwnBy, SeesTaken, ServerState, Session, SessionState, StreamNames, TakesIt, Tells, TookCounted, WasPolled, acknowledged, adopted_states, cold_done, cycle_of, entry_told, is_mixed, is_over, same_last, sees_same, state_of, took, with_cycle, with_mix, with_poll}
use Rattle.af_told_law.proofs.MixTold.{mix_told}
use Rattle.af_told_law.proofs.PollNew.{polled_told}
use Rattle.af_play_law.proofs.Cycled.{OneAdded}
use Rattle.af_play_law.proofs.RoundPipe.{took_mixed}

abbrev Watched : Type 0
Watched = Polls ServerState StreamNames

-- ## A poll that found the last state pushed

module _ (n : NormalState) (f p : MixerState) (adopts : Adopts f p) (on : is_over f ≡ false) (finds : FindsLast n f p) where
  -- what is so of the state before and of the last one pushed is so of the state after it
  pub state_polled : (P : FastState → Type 0) → P n.mutator.past.last → P f.observer.past.state → P p.observer.past.state
  state_polled P last was = let q = adopts.polls on in by_poll q.0 q.1 q.2 q.3
    where
      same_state : p.observer ≡ sees_same f.observer → P p.observer.past.state
      same_state is = subst P (sym (ap (λ (o : Observes ServerState StreamNames). o.past.state) is)) was

      new_state : (x : FastState) → TakesIt f.observer x p.observer → P p.observer.past.state
      new_state x takes =
          let is : p.observer.past ≡ acknowledged takes.1 (took x takes.0 f.observer.past) = ap (λ (o : Observes ServerState StreamNames). o.past) takes.2 in
          subst P (sym (ap (λ (w : Watched). w.state) is ∙ (finds.new x takes.0 takes.1 is).0)) last

      by_poll : (poll : Poll) (a b : ℕ) → WasPolled f.observer poll p.observer a b → P p.observer.past.state
      by_poll Nothing a b w = same_state w.1
      by_poll Same a b w = same_state w.1
      by_poll (New k) a b w = new_state w.1.0 w.1.1

  -- if the mixer has as many states as were pushed, it has the last
  pub same_polled : (0 < n.mutator.past.number → f.observer.past.number ≡ n.mutator.past.number → f.observer.past.state ≡ n.mutator.past.last) → 0 < n.mutator.past.number → p.observer.past.state ≡ n.mutator.past.last
  same_polled same some = let q = adopts.polls on in by_poll q.0 q.1 q.2 q.3
    where
      same_state : p.observer ≡ sees_same f.observer → p.observer.past.state ≡ n.mutator.past.last
      same_state is =
          ap (λ (o : Observes ServerState StreamNames). o.past.state) is ∙ same some (sym (ap (λ (o : Observes ServerState StreamNames). o.past.number) is) ∙ finds.number)

      new_state : (x : FastState) → TakesIt f.observer x p.observer → p.observer.past.state ≡ n.mutator.past.last
      new_state x takes =
          let is : p.observer.past ≡ acknowledged takes.1 (took x takes.0 f.observer.past) = ap (λ (o : Observes ServerState StreamNames). o.past) takes.2 in
          ap (λ (w : Watched). w.state) is ∙ (finds.new x takes.0 takes.1 is).0

      by_poll : (poll : Poll) (a b : ℕ) → WasPolled f.observer poll p.observer a b → p.observer.past.state ≡ n.mutator.past.last
      by_poll Nothing a b w = same_state w.1
      by_poll Same a b w = same_state w.1
      by_poll (New k) a b w = new_state w.1.0 w.1.1

-- a poll never falls behind
pub number_rises : (f p : MixerState) → Adopts f p → is_over f ≡ false → f.observer.past.number ≤ p.observer.past.number
number_rises f p adopts on = let q = adopts.polls on in by_poll q.0 q.1 q.2 q.3
  where
    same_number : p.observer ≡ sees_same f.observer → f.observer.past.number ≤ p.observer.past.number
    same_number is = let n : p.observer.past.number ≡ f.observer.past.number = ap (λ (o : Observes ServerState StreamNames). o.past.number) is in omega (arith, n)

    new_number : (x : FastState) → TakesIt f.observer x p.observer → f.observer.past.number ≤ p.observer.past.number
    new_number x takes = let n : p.observer.past.number ≡ f.observer.past.number + 1 = ap (λ (o : Observes ServerState StreamNames). o.past.number) takes.2 in omega (arith, n)

    by_poll : (poll : Poll) (a b : ℕ) → WasPolled f.observer poll p.observer a b → f.observer.past.number ≤ p.observer.past.number
    by_poll Nothing a b w = same_number w.1
    by_poll Same a b w = same_number w.1
    by_poll (New k) a b w = new_number w.1.0 w.1.1

-- ## What is so before a cycle, and after it

-- the run tells the session, the slots of the observer's state and of the last one pushed lead to tracks that are away, and the frames taken from the pipe are counted
pub record MayCycle (links : Links) (s : Session) (run : Run) (d : Deeds) (y : SessionState) : Type 0 where
  pub told : Tells s run d y
  pub together : AreTogether links y
  pub state : LeadAway y.fast.observer.past.state y.normal.tracks
  pub last : LeadAway y.normal.mutator.past.last y.normal.tracks
  pub took : TookCounted y.fast

-- a cycle that found the last state pushed, so that the history goes on by its poll, and whose look at the pipe saw the frames taken
pub record CycleShown (n : NormalState) (f : MixerState) (p g : MixerState) : Type 0 where
  pub finds : FindsLast n f p
  pub history : HasStateHistory n.mutator.past.first n.mutator.past.events p.observer.past.events
  pub sees : SeesTaken 0 g.pipe.pass.part.events

-- the run with this entry tells the session with the mixer g, and the entry is legal
pub record CycleTold (links : Links) (s : Session) (run : Run) (d : Deeds) (y : SessionState) (e : EntrySeen) (g : MixerState) : Type 0 where
  pub deeds : Deeds
  pub goes : GoOn d deeds
  pub may : MayCycle links s (with_cycle s run e) deeds (record y { fast = g })
  pub legal : (marks : Marks) → SawOwnBy marks (with_poll s e.entry.state run) deeds → LegalEntry s marks (with_poll s e.entry.state run) e

module _ (links : Links) (s : Session) (run : Run) (d : Deeds) (y : SessionState) (may : MayCycle links s run d y) (e : EntrySeen) (g : MixerState) (one : OneAdded links y.fast e g) (shown : CycleShown y.normal y.fast one.once.polled g) where
  abbrev p : MixerState
  p = one.once.polled

  abbrev polled : SessionState
  polled = record y { fast = p }

  abbrev then_run : Run
  then_run = with_poll s p.observer.past.number run

  together_polled : AreTogether links polled
  together_polled = record { normal = may.together.normal; fast = one.once.polled_in; count = may.together.count; tracks = may.together.tracks; clients = may.together.clients }

  together_mixed : AreTogether links (record y { fast = g })
  together_mixed = record { normal = may.together.normal; fast = one.once.mixed_in; count = may.together.count; tracks = may.together.tracks; clients = may.together.clients }

  told_polled : Tells s then_run d polled
  told_polled = polled_told links s run y p may.told may.together may.state may.last one.once.adopts shown.finds one.on

  state_then : LeadAway p.observer.past.state y.normal.tracks
  state_then = state_polled y.normal y.fast p one.once.adopts one.on shown.finds (λ (x : FastState). LeadAway x y.normal.tracks) may.last may.state

  still_on : is_over p ≡ false
  still_on = ap is_over one.once.adopts.same ∙ one.on

  took_polled : TookCounted p
  took_polled = subst TookCounted (sym one.once.adopts.same) may.took

  sizes : (g.frames ≡ p.frames) × (g.cycles ≡ p.cycles)
  sizes = (one.once.sizes.0 ∙ sym (ap (λ (f : MixerState). f.frames) one.once.adopts.same), one.once.sizes.1 ∙ sym (ap (λ (f : MixerState). f.cycles) one.once.adopts.same))

  mixed : (entry : CycleEntry) × (one.answer ≡ entry.cycle) × (g.log.entries ≡ p.log.entries ++ entry ∷ []) × (left : Leaves s d (with_mix s (entry_told g.log.frames (length p.log.frames) entry) then_run) (record y { fast = g })) × ((marks : Marks) → SawOwnBy marks then_run left.deeds → LegalEntry s marks then_run (entry_told g.log.frames (length p.log.frames) entry))
  mixed =
      let m = mix_told links s then_run d polled g one.once.before one.answer one.once.after together_polled together_mixed state_then still_on one.once.mixes sizes shown.history took_polled shown.sees told_polled in
      (m.0, m.1, m.2, m.3, m.5)

  same_entry : mixed.0 ≡ one.entry
  same_entry = same_last p.log.entries mixed.0 one.entry (sym mixed.2 ∙ one.adds.entries)

  seen_is : entry_told g.log.frames (length p.log.frames) mixed.0 ≡ e
  seen_is = (λ j. entry_told g.log.frames (length (one.once.adopts.same j).log.frames) (same_entry j)) ∙ sym one.is

  run_is : then_run ≡ with_poll s e.entry.state run
  run_is = ap (λ (k : ℕ). with_poll s k run) (sym one.adds.state ∙ ap (λ (x : EntrySeen). x.entry.state) (sym one.is))

  -- the frames taken from the pipe are counted again
  took_now : TookCounted g
  took_now = by_state (state_of (adopted_states p) one.entry.state) refl
    where
      by_state : (o : Option FastState) → state_of (adopted_states p) one.entry.state ≡ o → TookCounted g
      by_state None none = took_mixed p g p.observer.past.state one.entry one.adds.takes (λ (mixes : is_mixed one.entry.cycle ≡ true). absurd (true≢false (sym mixes ∙ ap is_mixed (one.adds.legal.what ∙ ap (cycle_of (cold_done (adopted_states p) p.log.entries)) none)))) took_polled
      by_state (Some x) is = took_mixed p g x one.entry one.adds.takes (λ (mixes : is_mixed one.entry.cycle ≡ true). one.adds.legal.mixes x is mixes) took_polled

  same_past : g.observer.past ≡ p.observer.past
  same_past = ap (λ (o : Observes ServerState StreamNames). o.past) one.adds.takes.observer

  pub cycle_told : CycleTold links s run d y e g
  cycle_told = record {
    deeds = mixed.3.deeds;
    goes = mixed.3.goes;
    may = record {
      told = subst (λ (w : Run × EntrySeen). Tells s (with_mix s w.1 w.0) mixed.3.deeds (record y { fast = g })) (λ j. (run_is j, seen_is j)) mixed.3.told;
      together = together_mixed;
      state = subst (λ (w : Watched). LeadAway w.state y.normal.tracks) (sym same_past) state_then;
      last = may.last;
      took = took_now;
    };
    legal = (λ marks saw. subst (λ (w : Run × EntrySeen). LegalEntry s marks w.0 w.1) (λ j. (run_is j, seen_is j)) (mixed.4 marks (subst (λ (r : Run). SawOwnBy marks r mixed.3.deeds) (sym run_is) saw)));
  }
