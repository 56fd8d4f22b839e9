-- What the meetings leave of the queue, the report and the pipe is told by the meetings of the run.
use Rattle.std.proofs.Common.{◌≡◌, ℕ, map, List, [], ◌∷◌, ◌++◌, length, refl, sym, ap, ◌∙◌, subst}
use Rattle.af_told_law.proofs.Common.{ClientEvent, Event, FastState, HasStateHistory, HasPipeHistory, Item, Met, MixerState, MutatorEvent, NormalState, ObserverEvent, ReaderEvent, Report, Run, ServerEvent, ServerState, Session, SessionState, SharedHistories, WriterEvent, cycle_frames, kept_of, length-map, map-append, marked_event, met, no_report, one, ones, ones_append, pushed_states, setup_of as mixer_setup, state_at, two, twos}
use Rattle.af_base.specs.declared.event.ClientEvent.TheVariants as client
use Rattle.af_base.specs.declared.event.ServerEvent.TheVariants as server
use Rattle.af_model.specs.NewestValue as newest
use Rattle.af_model.specs.declared.newest.ReaderEvent.TheVariants as reads
use Rattle.af_model.specs.declared.newest.WriterEvent.TheVariants as writes
use Rattle.af_model.specs.declared.states.MutatorEvent.TheVariants as mutator
use Rattle.af_model.specs.declared.states.ObserverEvent.TheVariants as observer
use Rattle.af_runs.specs.Sessions.{setup_of}
use Rattle.af_told_law.specs.Tells.{Tells, TellsFast, TellsShared, marked_poll, reports_stored}
use Rattle.af_told_law.proofs.MarkedQueue.{history_marked}
use Rattle.af_told_law.specs.Deeds.{Deeds}

pub twos_append : {A B : Type 0} (xs ys : List (Event A B)) → twos (xs ++ ys) ≡ twos xs ++ twos ys
twos_append [] ys = refl
twos_append (one a ∷ xs) ys = twos_append xs ys
twos_append {A} {B} (two b ∷ xs) ys = ap (λ (l : List B). b ∷ l) (twos_append xs ys)

-- a meeting pushes and stores nothing
pub pushed_still : (es : List (MutatorEvent ServerState)) (count : ℕ) → pushed_states (es ++ mutator.Learn count ∷ []) ≡ pushed_states es
pushed_still [] count = refl
pushed_still (mutator.Push k x items ∷ es) count = ap (λ (xs : List FastState). x ∷ xs) (pushed_still es count)
pushed_still (mutator.SawAck a items ∷ es) count = pushed_still es count
pushed_still (mutator.Learn c ∷ es) count = pushed_still es count

stored_still : (es : List (WriterEvent Report)) (count : ℕ) → reports_stored (es ++ writes.Learn count ∷ []) ≡ reports_stored es
stored_still [] count = refl
stored_still (writes.Store report ∷ es) count = ap (λ (xs : List Report). report ∷ xs) (stored_still es count)
stored_still (writes.Learn c ∷ es) count = stored_still es count

module _ (s : Session) (run : Run) {d : Deeds} (a b : SessionState) (h : Tells s run d a) (m : Met a b) where
  pushes : length a.normal.mutator.past.events ≡ length (ones run.queue)
  pushes = sym (length-map a.normal.mutator.past.events marked_event) ∙ ap length h.shared.mutator

  polls : length a.fast.observer.past.events ≡ length (twos run.queue)
  polls = sym (length-map a.fast.observer.past.events marked_poll) ∙ ap length h.shared.observer

  mutator_met : map marked_event b.normal.mutator.past.events ≡ ones (met s run).queue
  unfolding met
  mutator_met =
      ap (λ (n : NormalState). map marked_event n.mutator.past.events) m.ends.normal
      ∙ map-append marked_event a.normal.mutator.past.events (mutator.Learn (length a.fast.observer.past.events) ∷ [])
      ∙ (λ j. h.shared.mutator j ++ mutator.Learn (polls j) ∷ [])
      ∙ sym (ones_append run.queue (one (mutator.Learn (length (twos run.queue))) ∷ two (observer.Learn (length (ones run.queue))) ∷ []))

  observer_met : map marked_poll b.fast.observer.past.events ≡ twos (met s run).queue
  unfolding met
  observer_met =
      ap (λ (f : MixerState). map marked_poll f.observer.past.events) m.ends.fast
      ∙ map-append marked_poll a.fast.observer.past.events (observer.Learn (length a.normal.mutator.past.events) ∷ [])
      ∙ (λ j. h.shared.observer j ++ observer.Learn (pushes j) ∷ [])
      ∙ sym (twos_append run.queue (one (mutator.Learn (length (twos run.queue))) ∷ two (observer.Learn (length (ones run.queue))) ∷ []))

  reader_met : b.normal.reader.events ≡ twos (met s run).report
  unfolding met
  reader_met =
      ap (λ (n : NormalState). n.reader.events) m.ends.normal
      ∙ (λ j. h.shared.reader j ++ reads.Learn (length (h.shared.writer j)) ∷ [])
      ∙ sym (twos_append run.report (one (writes.Learn (length (twos run.report))) ∷ two (reads.Learn (length (ones run.report))) ∷ []))

  writer_met : b.fast.writer.events ≡ ones (met s run).report
  unfolding met
  writer_met =
      ap (λ (f : MixerState). f.writer.events) m.ends.fast
      ∙ (λ j. h.shared.writer j ++ writes.Learn (length (h.shared.reader j)) ∷ [])
      ∙ sym (ones_append run.report (one (writes.Learn (length (twos run.report))) ∷ two (reads.Learn (length (ones run.report))) ∷ []))

  puts_met : b.normal.pipe.pass.part.events ≡ ones (met s run).pipe.told
  unfolding met
  puts_met =
      ap (λ (n : NormalState). n.pipe.pass.part.events) m.ends.normal
      ∙ (λ j. h.shared.puts.told j ++ client.Learn (length (h.shared.takes j)) ∷ [])
      ∙ sym (ones_append run.pipe.told (one (client.Learn (length (twos run.pipe.told))) ∷ two (server.Learn (length (ones run.pipe.told))) ∷ []))

  takes_met : b.fast.pipe.pass.part.events ≡ twos (met s run).pipe.told
  unfolding met
  takes_met =
      ap (λ (f : MixerState). f.pipe.pass.part.events) m.ends.fast
      ∙ (λ j. h.shared.takes j ++ server.Learn (length (h.shared.puts.told j)) ∷ [])
      ∙ sym (twos_append run.pipe.told (one (client.Learn (length (twos run.pipe.told))) ∷ two (server.Learn (length (ones run.pipe.told))) ∷ []))

  words_met : (b.normal.pipe.pass.part.frames ≡ (met s run).pipe.put) × (b.fast.pipe.pass.part.frames ≡ (met s run).pipe.taken)
  unfolding met
  words_met = (ap (λ (n : NormalState). n.pipe.pass.part.frames) m.ends.normal ∙ h.shared.puts.words, ap (λ (f : MixerState). f.pipe.pass.part.frames) m.ends.fast ∙ h.shared.taken)

  pub shared_met : TellsShared s (met s run) b.normal b.fast
  shared_met = record {
    first = ap (λ (n : NormalState). n.mutator.past.first) m.ends.normal ∙ h.shared.first;
    mutator = mutator_met;
    observer = observer_met;
    reader = reader_met;
    writer = writer_met;
    puts = record { told = puts_met; words = words_met.0 };
    takes = takes_met;
    taken = words_met.1;
    size = ap (λ (f : MixerState). f.pipe.pass.part.shape.frames) m.ends.fast ∙ h.shared.size;
  }

  -- the lists of the ends have their histories
  pub shared_histories : SharedHistories s (met s run)
  shared_histories = record {
    queue = subst (λ (y : FastState × List (MutatorEvent Item) × List (ObserverEvent Item)). HasStateHistory y.0 y.1 y.2) (λ j. (shared_met.first j, shared_met.mutator j, shared_met.observer j))
        (history_marked b.normal.mutator.past.first b.normal.mutator.past.events b.fast.observer.past.events m.ends.histories.queue);
    report = subst (λ (y : List (WriterEvent Report) × List (ReaderEvent Report)). newest.HasValueHistory no_report y.0 y.1) (λ j. (shared_met.writer j, shared_met.reader j)) m.ends.histories.report;
    pipe = subst (λ (y : ℕ × List ClientEvent × List ℕ × List ServerEvent × List ℕ). HasPipeHistory y.0 y.1 y.2 y.3 y.4) (λ j. (shared_met.size j, shared_met.puts.told j, shared_met.puts.words j, shared_met.takes j, shared_met.taken j)) m.ends.histories.pipe;
  }

  -- what the mixers keep stays
  pub kept_met : (mixer_setup b.normal ≡ setup_of s) × (kept_of b.normal ≡ (met s run).normal) × (pushed_states b.normal.mutator.past.events ≡ (met s run).states)
      × (b.normal.mutator.past.number ≡ length (met s run).states) × (b.normal.mutator.past.last ≡ state_at (cycle_frames s) (met s run).states (length (met s run).states))
  unfolding met
  kept_met = (
    ap mixer_setup m.ends.normal ∙ h.normal.setup,
    ap kept_of m.ends.normal ∙ h.normal.kept,
    ap (λ (n : NormalState). pushed_states n.mutator.past.events) m.ends.normal ∙ pushed_still a.normal.mutator.past.events (length a.fast.observer.past.events) ∙ h.normal.states,
    ap (λ (n : NormalState). n.mutator.past.number) m.ends.normal ∙ h.normal.number,
    ap (λ (n : NormalState). n.mutator.past.last) m.ends.normal ∙ h.normal.last,
  )

  pub fast_met : TellsFast s (met s run) b.fast
  unfolding met
  fast_met = record {
    frames = ap (λ (f : MixerState). f.frames) m.ends.fast ∙ h.fast.frames;
    cycles = ap (λ (f : MixerState). f.cycles) m.ends.fast ∙ h.fast.cycles;
    current = ap (λ (f : MixerState). f.observer.past.number) m.ends.fast ∙ h.fast.current;
    state = ap (λ (f : MixerState). f.observer.past.state) m.ends.fast ∙ h.fast.state;
    entries = ap (λ (f : MixerState). f.log.entries) m.ends.fast ∙ h.fast.entries;
    logged = ap (λ (f : MixerState). length f.log.frames) m.ends.fast ∙ h.fast.logged;
    exited = ap (λ (f : MixerState). f.exited) m.ends.fast ∙ h.fast.exited;
    reports = ap (λ (f : MixerState). reports_stored f.writer.events) m.ends.fast ∙ stored_still a.fast.writer.events (length a.normal.reader.events) ∙ h.fast.reports;
    fresh = h.fast.fresh;
  }
