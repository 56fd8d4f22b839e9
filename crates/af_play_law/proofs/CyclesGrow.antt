-- The lists of the fast mixer's ends grow from cycle to cycle.
use Rattle.std.proofs.Common.{◌≡◌, ℕ, zero, suc, ◌==◌, ◌||◌, Bool, true, false, true≢false, List, [], ◌∷◌, ◌++◌, length, append-nil, append_assoc, Option, Some, None, refl, sym, ap, ◌∙◌}
use Rattle.af_play_law.proofs.Common.{AddsCycle, Adopts, Cycle, CycleEntry, CyclesOn, CyclesOnce, FastState, FastTurned, Frame, Links, MatchBool, MixerState, MixesOnce, Observes, OutSide, Report, ServerEvent, ServerState, Store, StreamNames, WriterEvent, adopted_states, cold_done, cycle_of, entry_slot, eqb-true, is_mixed, is_over, most_cycles, state_of, takes_shown}
use Rattle.af_base.specs.declared.event.ServerEvent.TheVariants as server
use Rattle.af_model.specs.declared.states.ObserverEvent.TheVariants as observer
use Rattle.af_play_law.specs.Polls.{Polled}
use Rattle.af_play_law.proofs.RoundPolls.{PollAdds, poll_adds}

-- the lists of the ends of the queue, the report and the pipe go on by these events
pub record EndsGrow (m m' : MixerState) : Type 0 where
  pub polls : Polled
  pub polled : m'.observer.past.events ≡ m.observer.past.events ++ polls
  pub stores : List (WriterEvent Report)
  pub stored : m'.writer.events ≡ m.writer.events ++ stores
  pub takes : List ServerEvent
  pub taken : m'.pipe.pass.part.events ≡ m.pipe.pass.part.events ++ takes

-- the lists grow by nothing
pub grow_none : (m m' : MixerState) → m'.observer.past.events ≡ m.observer.past.events → m'.writer.events ≡ m.writer.events → m'.pipe.pass.part.events ≡ m.pipe.pass.part.events → EndsGrow m m'
grow_none m m' polled stored taken = record {
  polls = [];
  polled = polled ∙ sym (append-nil m.observer.past.events);
  stores = [];
  stored = stored ∙ sym (append-nil m.writer.events);
  takes = [];
  taken = taken ∙ sym (append-nil m.pipe.pass.part.events);
}

-- the lists grow from a to b and then to c
pub grow_both : (a b c : MixerState) → EndsGrow a b → EndsGrow b c → EndsGrow a c
grow_both a b c f g = record {
  polls = f.polls ++ g.polls;
  polled = g.polled ∙ ap (λ (l : Polled). l ++ g.polls) f.polled ∙ append_assoc a.observer.past.events f.polls g.polls;
  stores = f.stores ++ g.stores;
  stored = g.stored ∙ ap (λ (l : List (WriterEvent Report)). l ++ g.stores) f.stored ∙ append_assoc a.writer.events f.stores g.stores;
  takes = f.takes ++ g.takes;
  taken = g.taken ∙ ap (λ (l : List ServerEvent). l ++ g.takes) f.taken ∙ append_assoc a.pipe.pass.part.events f.takes g.takes;
}

-- the lists grow by a poll
pub poll_grows : (m p : MixerState) → Adopts m p → EndsGrow m p
poll_grows m p adopts = by_over (is_over m) refl
  where
    by_over : (b : Bool) → is_over m ≡ b → EndsGrow m p
    by_over true over = let is = adopts.rests over in grow_none m p (ap (λ (f : MixerState). f.observer.past.events) is) (ap (λ (f : MixerState). f.writer.events) is) (ap (λ (f : MixerState). f.pipe.pass.part.events) is)
    by_over false on =
        let q = adopts.polls on in
        let adds : PollAdds m.observer.past p.observer.past = poll_adds m.observer p.observer q.0 q.1 q.2 q.3 in
        record {
          polls = observer.SawNext p.observer.past.number adds.state adds.items ∷ adds.more;
          polled = adds.list;
          stores = [];
          stored = ap (λ (f : MixerState). f.writer.events) adopts.same ∙ sym (append-nil m.writer.events);
          takes = [];
          taken = ap (λ (f : MixerState). f.pipe.pass.part.events) adopts.same ∙ sym (append-nil m.pipe.pass.part.events);
        }

-- a mix takes from the pipe what its entry shows
pipe_grows : (m m' : MixerState) (entry : CycleEntry) → AddsCycle m m' entry → (takes : List ServerEvent) × (m'.pipe.pass.part.events ≡ m.pipe.pass.part.events ++ takes)
pipe_grows m m' entry adds = by_mixed (is_mixed entry.cycle) refl
  where
    by_state : (o : Option FastState) → state_of (adopted_states m) entry.state ≡ o → is_mixed entry.cycle ≡ true → (takes : List ServerEvent) × (m'.pipe.pass.part.events ≡ m.pipe.pass.part.events ++ takes)
    by_state None is mixed = absurd (true≢false (sym mixed ∙ ap is_mixed (adds.legal.what ∙ ap (cycle_of (cold_done (adopted_states m) m.log.entries)) is)))
    by_state (Some x) is mixed = let submix = (adds.legal.mixes x is mixed).submix in (server.SawRear (entry_slot entry 0).rear ∷ server.SawFront submix.front ∷ takes_shown (entry_slot entry 0).seen, submix.list)

    by_mixed : (b : Bool) → is_mixed entry.cycle ≡ b → (takes : List ServerEvent) × (m'.pipe.pass.part.events ≡ m.pipe.pass.part.events ++ takes)
    by_mixed true mixed = by_state (state_of (adopted_states m) entry.state) refl mixed
    by_mixed false dry = ([], ap (λ (o : OutSide). o.pass.part.events) (adds.takes.still dry).1 ∙ sym (append-nil m.pipe.pass.part.events))

-- the lists grow by a mix
pub mix_grows : (m m' : MixerState) (out out' : List Frame) (answer : Cycle) → MixesOnce m out answer m' out' → EndsGrow m m'
mix_grows m m' out out' answer mixes = by_exit m.exited (length m.log.entries == m.cycles) refl refl
  where
    same : m' ≡ record m { adopted = false } → EndsGrow m m'
    same is = grow_none m m' (ap (λ (f : MixerState). f.observer.past.events) is) (ap (λ (f : MixerState). f.writer.events) is) (ap (λ (f : MixerState). f.pipe.pass.part.events) is)

    by_exit : (b d : Bool) → m.exited ≡ b → (length m.log.entries == m.cycles) ≡ d → EndsGrow m m'
    by_exit true d exited full = same (mixes.exited exited).1
    by_exit false true runs full = same (mixes.spent runs (eqb-true (length m.log.entries) m.cycles full)).1
    by_exit false false runs room =
        let added = mixes.adds (λ j. runs j || room j) in
        let adds : AddsCycle m m' added.0 = added.2 in
        let pipe = pipe_grows m m' added.0 adds in
        record {
          polls = [];
          polled = ap (λ (o : Observes ServerState StreamNames). o.past.events) adds.takes.observer ∙ sym (append-nil m.observer.past.events);
          stores = Store adds.report.0 ∷ [];
          stored = adds.report.1;
          takes = pipe.0;
          taken = pipe.1;
        }

-- the lists grow by a cycle
pub once_grows : (links : Links) (m m' : MixerState) (answer : Cycle) (bytes : List ℕ) → CyclesOnce links m answer bytes m' → EndsGrow m m'
once_grows links m m' answer bytes w = grow_both m w.polled m' (poll_grows m w.polled w.adopts) (mix_grows w.polled m' w.before w.after answer w.mixes)

-- the lists grow by the cycles of a turn
pub cycles_grow : (links : Links) (left : ℕ) (m : MixerState) (bytes : List ℕ) (m' : MixerState) → CyclesOn links left m bytes m' → EndsGrow m m'
cycles_grow links zero m bytes m' turn = grow_none m m' (ap (λ (f : MixerState). f.observer.past.events) turn.1) (ap (λ (f : MixerState). f.writer.events) turn.1) (ap (λ (f : MixerState). f.pipe.pass.part.events) turn.1)
cycles_grow links (suc left) m bytes m' turn = grow_both m turn.1 m' (once_grows links m turn.1 turn.0 turn.2 turn.4) (by_answer (is_mixed turn.0) refl (λ mixed. cycles_grow links left turn.1 turn.3 m' (turn.6 mixed)))
  where
    by_answer : (b : Bool) → is_mixed turn.0 ≡ b → (is_mixed turn.0 ≡ true → EndsGrow turn.1 m') → EndsGrow turn.1 m'
    by_answer true mixed goes = goes mixed
    by_answer false dry goes = let is = (turn.7 dry).1 in grow_none turn.1 m' (ap (λ (f : MixerState). f.observer.past.events) is) (ap (λ (f : MixerState). f.writer.events) is) (ap (λ (f : MixerState). f.pipe.pass.part.events) is)

-- the lists grow by a turn
pub turned_grows : (links : Links) (m : MixerState) (bytes : List ℕ) (m' : MixerState) → FastTurned links m bytes m' → EndsGrow m m'
turned_grows links m bytes m' turned = by_exit m.exited turned
  where
    by_exit : (b : Bool) → MatchBool b ((bytes ≡ []) × (m' ≡ m)) (CyclesOn links most_cycles m bytes m') → EndsGrow m m'
    by_exit true still = grow_none m m' (ap (λ (f : MixerState). f.observer.past.events) still.1) (ap (λ (f : MixerState). f.writer.events) still.1) (ap (λ (f : MixerState). f.pipe.pass.part.events) still.1)
    by_exit false turn = cycles_grow links most_cycles m bytes m' turn
