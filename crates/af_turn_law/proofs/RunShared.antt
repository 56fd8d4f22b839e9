-- The queue, the report and the pipe of a turn run are told in phases, round by round.
use Rattle.std.proofs.Common.{ℕ, ◌-◌, ◌%◌, ◌==◌, nat_le, Bool, true, false, if◌then◌else◌, fold, map, List, [], ◌∷◌, ◌++◌, length, Option, Some, None, refl}
use Rattle.af_turn_law.proofs.Common.{EntrySeen, FastState, Item, Learnt, NormalKept, PipeTold, RoundSeen, Run, Seen, Session, Setup, Turn, TurnFound, after_edits, calls_alone, cycle_alone, cycle_frames, each_track, ends, entry_slot, found_before, front_by_room, going, is_mixed, items_of, learnt, loaded, met, mixed_pipe, mutator_list, new_run, next_report, number_seen, ones, outside_of, pipe_list, pipe_size, poll_events, push_list, put_by, releases_of, setup_of, slot_frames, state_at, takes_shown, turn_alone, turned, two, twos, with_ends, with_load, with_looks, with_mix, with_poll, with_turn, wrapped}
use Rattle.af_base.specs.declared.event.ClientEvent.TheVariants as client
use Rattle.af_base.specs.declared.event.ServerEvent.TheVariants as server
use Rattle.af_base.specs.declared.seen.Seen.TheVariants as seen
use Rattle.af_base.specs.declared.state.Push.{Push}
use Rattle.af_base.specs.declared.state.Push.TheVariants.{Pushed, Clean, Busy}
use Rattle.af_base.specs.Sample.{packed_word}
use Rattle.af_model.specs.declared.newest.WriterEvent.TheVariants as writes
use Rattle.af_model.specs.declared.newest.ReaderEvent.TheVariants as reads
use Rattle.af_model.specs.declared.states.MutatorEvent.TheVariants as mutator
use Rattle.af_model.specs.declared.states.ObserverEvent.TheVariants as observer
use Rattle.af_turn_law.specs.Marking.{mutator_marks, observer_marks, writer_marks, reader_marks, client_marks, server_marks}
use Rattle.af_turn_law.proofs.Marked.{NoMarks}
use Rattle.af_turn_law.specs.Phased.{IsPhased}
use Rattle.af_turn_law.proofs.EndsSteps.{EndsReady, new_ends, ones_done, twos_done, ends_met}

-- ## What is added has no marks

plain_going : {E : Type 0} (P : List E → Type 0) (e : Turn) (es : List E) → P [] → P es → P (going e es)
plain_going P e es none h = by_end e.ended
  where
    by_end : (b : Bool) → P (if b then [] else es)
    by_end true = none
    by_end false = h

plain_push : (m : NormalKept) (push : Push) (again sent : List (Option Item)) → NoMarks mutator_marks (push_list m push again sent)
plain_push m Clean again sent = tt
plain_push m (Busy seen expected) again sent = (refl, tt)
plain_push m (Pushed number) again sent = by_first (m.pushed == 0)
  where
    by_first : (b : Bool) → NoMarks mutator_marks ((if b then [] else mutator.SawAck m.pushed again ∷ []) ++ mutator.Push number m.draft sent ∷ [])
    by_first true = (refl, tt)
    by_first false = (refl, (refl, tt))

plain_mutator : (c : Setup) (k : Learnt) (m : NormalKept) (e : Turn) (back again sent : List (Option Item)) → NoMarks mutator_marks (mutator_list c k m e back again sent)
plain_mutator c k m e back again sent = by_end m.ended
  where
    by_end : (b : Bool) → NoMarks mutator_marks (if b then [] else mutator.SawAck (number_seen m e.ack) back ∷ going e (push_list (after_edits c k e m) e.push again sent))
    by_end true = tt
    by_end false = (refl, plain_going (NoMarks mutator_marks) e (push_list (after_edits c k e m) e.push again sent) tt (plain_push (after_edits c k e m) e.push again sent))

plain_releases : (cells put n : ℕ) → NoMarks client_marks (releases_of cells put n)
plain_releases cells put n = by_count (n == 0) (nat_le n (cells - put % cells))
  where
    by_count : (none one : Bool) → NoMarks client_marks (if none then [] else if one then client.Release n ∷ [] else client.Release (cells - put % cells) ∷ client.Release (n - (cells - put % cells)) ∷ [])
    by_count true b = tt
    by_count false true = (refl, tt)
    by_count false false = (refl, (refl, tt))

plain_pipe : (c : Setup) (cells put : ℕ) (e : Turn) → NoMarks client_marks (pipe_list c cells put e)
plain_pipe c cells put e = plain_going (NoMarks client_marks) e (client.SawFront (front_by_room (pipe_size c) put e.room) ∷ releases_of cells put (length (put_by c e.mixes))) tt (refl, plain_releases cells put (length (put_by c e.mixes)))

plain_poll : (frames : ℕ) (states : List FastState) (c k : ℕ) → NoMarks observer_marks (poll_events frames states c k)
plain_poll frames states c k = by_same (k == c)
  where
    by_same : (b : Bool) → NoMarks observer_marks (let x = state_at frames states k in let y = state_at frames states c in if b then observer.SawNext k None [] ∷ [] else observer.SawNext k (Some x) (items_of x y) ∷ observer.Ack k (items_of y x) ∷ [])
    by_same true = (refl, tt)
    by_same false = (refl, (refl, tt))

plain_shown : (answer : Seen) → NoMarks server_marks (takes_shown answer)
plain_shown (seen.Frames count) = (refl, tt)
plain_shown _ = tt

-- ## The steps

-- how the shared objects stand between two rounds
pub record SharedReady (run : Run) : Type 0 where
  pub queue : EndsReady mutator_marks observer_marks run.queue
  pub report : EndsReady writer_marks reader_marks run.report
  pub pipe : EndsReady client_marks server_marks run.pipe.told

-- how the shared objects stand before the meetings
pub record SharedDone (run : Run) : Type 0 where
  pub queue : IsPhased mutator_marks observer_marks run.queue
  pub report : IsPhased writer_marks reader_marks run.report
  pub pipe : IsPhased client_marks server_marks run.pipe.told

-- how the shared objects stand after a mix
pub record SharedMixed (run : Run) : Type 0 where
  pub queue : EndsReady mutator_marks observer_marks run.queue
  pub report : IsPhased writer_marks reader_marks run.report
  pub pipe : IsPhased client_marks server_marks run.pipe.told

pub shared_new : (s : Session) → SharedReady (new_run s)
shared_new s = record { queue = new_ends mutator_marks observer_marks; report = new_ends writer_marks reader_marks; pipe = new_ends client_marks server_marks }

pub shared_rest : (run : Run) → SharedReady run → SharedMixed run
shared_rest run h = record { queue = h.queue; report = h.report.phased; pipe = h.pipe.phased }

pub shared_mixed : (run : Run) → SharedMixed run → SharedDone run
shared_mixed run h = record { queue = h.queue.phased; report = h.report; pipe = h.pipe }

pub shared_met : (s : Session) (run : Run) → SharedDone run → SharedReady (met s run)
unfolding met
shared_met s run h = record {
  queue = ends_met mutator_marks observer_marks run.queue (mutator.Learn (length (twos run.queue))) (observer.Learn (length (ones run.queue))) refl refl refl refl h.queue;
  report = ends_met writer_marks reader_marks run.report (writes.Learn (length (twos run.report))) (reads.Learn (length (ones run.report))) refl refl refl refl h.report;
  pipe = ends_met client_marks server_marks run.pipe.told (client.Learn (length (twos run.pipe.told))) (server.Learn (length (ones run.pipe.told))) refl refl refl refl h.pipe;
}

pub shared_ends : (run : Run) → SharedReady run → SharedReady (with_ends run)
unfolding with_ends
shared_ends run h = by_end run.normal.ended
  where
    by_end : (b : Bool) → SharedReady (if b then each_track (λ track t. record t { client = ends t.client }) run else run)
    by_end true = record { queue = h.queue; report = h.report; pipe = h.pipe }
    by_end false = h

pub shared_calls : (track : ℕ) (round : RoundSeen) (run : Run) → SharedReady run → SharedDone (calls_alone track round run)
shared_calls track round run h = record { queue = h.queue.phased; report = h.report.phased; pipe = h.pipe.phased }

shared_turned : (s : Session) (f : TurnFound) (e : Turn) (run : Run) → SharedReady run → SharedDone (with_load e (with_turn s f e run))
unfolding with_load with_turn
shared_turned s f e run h =
    let c = setup_of s in
    let o = outside_of c f e in
    record {
      queue = (ones_done mutator_marks observer_marks run.queue (mutator_list c (learnt o) run.normal e _ _ _) (plain_mutator c (learnt o) run.normal e _ _ _) h.queue.phased h.queue.one_knows).0;
      report = (twos_done writer_marks reader_marks run.report (going e (reads.Load e.cycle _ ∷ [])) (plain_going (NoMarks reader_marks) e (reads.Load e.cycle _ ∷ []) tt (refl, tt)) h.report.phased h.report.two_knows).0;
      pipe = (ones_done client_marks server_marks run.pipe.told (pipe_list c _ (length run.pipe.put) e) (plain_pipe c _ (length run.pipe.put) e) h.pipe.phased h.pipe.one_knows).0;
    }

pub shared_turn : (s : Session) (round : RoundSeen) (run : Run) → SharedReady run → SharedDone (turn_alone s run round)
shared_turn s round run h = by_turn round.turn
  where
    by_turn : (o : Option Turn) → SharedDone (loaded o (turned s (found_before s run []) o run))
    by_turn None = record { queue = h.queue.phased; report = h.report.phased; pipe = h.pipe.phased }
    by_turn (Some e) = shared_turned s (found_before s run [] e) e run h

shared_polled : (s : Session) (k : ℕ) (run : Run) → SharedMixed run → SharedDone (with_poll s k run)
unfolding with_poll
shared_polled s k run h = record {
  queue = (twos_done mutator_marks observer_marks run.queue (poll_events (cycle_frames s) run.states run.current k) (plain_poll (cycle_frames s) run.states run.current k) h.queue.phased h.queue.two_knows).0;
  report = h.report;
  pipe = h.pipe;
}

pipe_mixed : (e : EntrySeen) (p : PipeTold) → EndsReady client_marks server_marks p.told → IsPhased client_marks server_marks (mixed_pipe e p).told
pipe_mixed e p h = by_mix (is_mixed e.entry.cycle)
  where
    by_mix : (b : Bool) → IsPhased client_marks server_marks (let slot = entry_slot e.entry 0 in let r : PipeTold = (if b then record p { told = p.told ++ map two (server.SawRear slot.rear ∷ server.SawFront (wrapped (length p.taken)) ∷ takes_shown slot.seen); taken = p.taken ++ map packed_word (slot_frames e 0) } else p) in r.told)
    by_mix true = (twos_done client_marks server_marks p.told (server.SawRear (entry_slot e.entry 0).rear ∷ server.SawFront (wrapped (length p.taken)) ∷ takes_shown (entry_slot e.entry 0).seen) (refl, (refl, plain_shown (entry_slot e.entry 0).seen)) h.phased h.two_knows).0
    by_mix false = h.phased

shared_mix : (s : Session) (e : EntrySeen) (run : Run) → SharedReady run → SharedMixed (with_mix s e run)
unfolding with_mix
shared_mix s e run h = record {
  queue = h.queue;
  report = (ones_done writer_marks reader_marks run.report (writes.Store (next_report s (with_looks s e run) e.entry) ∷ []) (refl, tt) h.report.phased h.report.one_knows).0;
  pipe = pipe_mixed e run.pipe h.pipe;
}

pub shared_cycle : (s : Session) (run : Run) (e : EntrySeen) → SharedMixed run → SharedMixed (cycle_alone s run e)
shared_cycle s run e h = shared_mix s e (met s (with_poll s e.entry.state run)) (shared_met s (with_poll s e.entry.state run) (shared_polled s e.entry.state run h))

pub shared_cycles : (s : Session) (entries : List EntrySeen) (run : Run) → SharedMixed run → SharedMixed (fold (cycle_alone s) run entries)
shared_cycles s [] run h = h
shared_cycles s (e ∷ entries) run h = shared_cycles s entries (cycle_alone s run e) (shared_cycle s run e h)
