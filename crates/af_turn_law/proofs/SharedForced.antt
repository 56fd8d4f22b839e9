-- The lists of the queue's, the report's and the pipe's ends force the order in which they are told, if that is in phases.
use Rattle.std.proofs.Common.{◌≡◌, ℕ, ◌+◌, ◌≤◌, ◌||◌, true, false, true≢false, [], refl, ap, ◌∙◌, arith}
use Rattle.af_turn_law.proofs.Common.{ClientEvent, HasPipeTold, HasQueueHistory, HasReportHistory, IsPipeAsTold, IsQueueAsTold, IsReportAsTold, Item, ObserverEvent, PipePoint, PipeTold, QueuePoint, QueueTold, ReportTold, ServerEvent, initial, no, one, two}
use Rattle.af_base.specs.declared.event.ClientEvent.TheVariants as client
use Rattle.af_base.specs.declared.event.ServerEvent.TheVariants as server
use Rattle.af_base.specs.declared.report.Report.{Report}
use Rattle.af_model.specs.declared.newest.WriterEvent.{WriterEvent}
use Rattle.af_model.specs.declared.newest.WriterEvent.TheVariants as writes
use Rattle.af_model.specs.declared.newest.ReaderEvent.{ReaderEvent}
use Rattle.af_model.specs.declared.newest.ReaderEvent.TheVariants as reads
use Rattle.af_model.specs.declared.states.MutatorEvent.{MutatorEvent}
use Rattle.af_model.specs.declared.states.MutatorEvent.TheVariants as mutator
use Rattle.af_model.specs.declared.states.ObserverEvent.TheVariants as observer
use Rattle.af_model.specs.NewestValue as newest
use Rattle.af_model.specs.NewestValue.{CellPoint}
use Rattle.af_model.specs.PipeHistory as piped
use Rattle.af_model.specs.Reports.{no_report}
use Rattle.af_model.specs.StateQueue as queued
use Rattle.af_turn_law.specs.Marking.{mutator_marks, observer_marks, writer_marks, reader_marks, client_marks, server_marks, mutator_is_mark, mutator_named, observer_is_mark, observer_named, writer_is_mark, writer_named, reader_is_mark, reader_named, client_is_mark, client_named, server_is_mark, server_named}
use Rattle.af_turn_law.specs.Phased.{IsPhased}
use Rattle.af_turn_law.proofs.TwoForced.{MarksPass, forced_from}

-- ## The queue

abbrev Q : Type 0
Q = QueuePoint Item

abbrev queue_ones : Q → ℕ
queue_ones p = p.mutator.count

abbrev queue_twos : Q → ℕ
queue_twos p = p.observer.count

queue_one_counts : (p : Q) (a : MutatorEvent Item) → (queue_ones (queued.next p (one a)) ≡ queue_ones p + 1) × (queue_twos (queued.next p (one a)) ≡ queue_twos p)
queue_one_counts p (mutator.Push k x items) = (refl, refl)
queue_one_counts p (mutator.SawAck a items) = (refl, refl)
queue_one_counts p (mutator.Learn c) = (refl, refl)

queue_two_counts : (p : Q) (b : ObserverEvent Item) → (queue_ones (queued.next p (two b)) ≡ queue_ones p) × (queue_twos (queued.next p (two b)) ≡ queue_twos p + 1)
queue_two_counts p (observer.SawNext k x items) = (refl, refl)
queue_two_counts p (observer.Ack k items) = (refl, refl)
queue_two_counts p (observer.Learn c) = (refl, refl)

mutator_plain : (a : MutatorEvent Item) → mutator_is_mark a ≡ false → mutator_named a ≡ 0
mutator_plain (mutator.Push k x items) is = refl
mutator_plain (mutator.SawAck a items) is = refl
mutator_plain (mutator.Learn c) is = absurd (true≢false is)

observer_plain : (b : ObserverEvent Item) → observer_is_mark b ≡ false → observer_named b ≡ 0
observer_plain (observer.SawNext k x items) is = refl
observer_plain (observer.Ack k items) is = refl
observer_plain (observer.Learn c) is = absurd (true≢false is)

mutator_learns : (p : Q) (a : MutatorEvent Item) → queued.legal p (one a) → mutator_named a ≤ queue_twos p
mutator_learns p (mutator.Push k x items) l = omega arith
mutator_learns p (mutator.SawAck a items) l = omega arith
mutator_learns p (mutator.Learn c) l = l

observer_learns : (p : Q) (b : ObserverEvent Item) → queued.legal p (two b) → observer_named b ≤ queue_ones p
observer_learns p (observer.SawNext k x items) l = omega arith
observer_learns p (observer.Ack k items) l = omega arith
observer_learns p (observer.Learn c) l = l.0

queue_one_first : (p : Q) (a : MutatorEvent Item) (b : ObserverEvent Item) → (mutator_is_mark a || observer_is_mark b) ≡ true → mutator_named a ≤ queue_twos p → queued.legal p (two b) → queued.legal (queued.next p (two b)) (one a)
    → queued.legal p (one a) × queued.legal (queued.next p (one a)) (two b) × (queued.next (queued.next p (one a)) (two b) ≡ queued.next (queued.next p (two b)) (one a))
queue_one_first p (mutator.Learn c) (observer.SawNext k x items) marks few lb la = (few, lb, refl)
queue_one_first p (mutator.Learn c) (observer.Ack k items) marks few lb la = (few, lb, refl)
queue_one_first p (mutator.Learn c) (observer.Learn k) marks few lb la = (few, ((let n = lb.0 in omega (arith, n)), lb.1), refl)
queue_one_first p (mutator.Push n x items) (observer.Learn k) marks few lb la = (la, ((let n = lb.0 in omega (arith, n)), lb.1), refl)
queue_one_first p (mutator.SawAck n items) (observer.Learn k) marks few lb la = (la, ((let n = lb.0 in omega (arith, n)), lb.1), refl)
queue_one_first p (mutator.Push n x items) (observer.SawNext k y more) marks few lb la = no marks
queue_one_first p (mutator.Push n x items) (observer.Ack k more) marks few lb la = no marks
queue_one_first p (mutator.SawAck n items) (observer.SawNext k y more) marks few lb la = no marks
queue_one_first p (mutator.SawAck n items) (observer.Ack k more) marks few lb la = no marks

queue_two_first : (p : Q) (a : MutatorEvent Item) (b : ObserverEvent Item) → (mutator_is_mark a || observer_is_mark b) ≡ true → observer_named b ≤ queue_ones p → queued.legal p (one a) → queued.legal (queued.next p (one a)) (two b)
    → queued.legal p (two b) × queued.legal (queued.next p (two b)) (one a) × (queued.next (queued.next p (two b)) (one a) ≡ queued.next (queued.next p (one a)) (two b))
queue_two_first p (mutator.Learn c) (observer.SawNext k x items) marks few la lb = (lb, omega (arith, la), refl)
queue_two_first p (mutator.Learn c) (observer.Ack k items) marks few la lb = (lb, omega (arith, la), refl)
queue_two_first p (mutator.Learn c) (observer.Learn k) marks few la lb = ((few, lb.1), omega (arith, la), refl)
queue_two_first p (mutator.Push n x items) (observer.Learn k) marks few la lb = ((few, lb.1), la, refl)
queue_two_first p (mutator.SawAck n items) (observer.Learn k) marks few la lb = ((few, lb.1), la, refl)
queue_two_first p (mutator.Push n x items) (observer.SawNext k y more) marks few la lb = no marks
queue_two_first p (mutator.Push n x items) (observer.Ack k more) marks few la lb = no marks
queue_two_first p (mutator.SawAck n items) (observer.SawNext k y more) marks few la lb = no marks
queue_two_first p (mutator.SawAck n items) (observer.Ack k more) marks few la lb = no marks

queue_passes : MarksPass queued.legal queued.next mutator_marks observer_marks queue_ones queue_twos
queue_passes = record {
  one_counts = queue_one_counts;
  two_counts = queue_two_counts;
  one_plain = mutator_plain;
  two_plain = observer_plain;
  one_learns = mutator_learns;
  two_learns = observer_learns;
  one_first = queue_one_first;
  two_first = queue_two_first;
}

pub queue_forced : (frames : ℕ) (told : QueueTold) → IsPhased mutator_marks observer_marks told → HasQueueHistory frames told → IsQueueAsTold frames told
queue_forced frames told phased h =
    (forced_from queued.legal queued.next mutator_marks observer_marks queue_ones queue_twos queue_passes (queued.start_of_queue (initial frames)) [] [] told h.order refl refl (omega arith) (omega arith) phased h.is_legal h.of_one h.of_two).0

-- ## The report

abbrev C : Type 0
C = CellPoint Report

abbrev cell_ones : C → ℕ
cell_ones p = p.writes

abbrev cell_twos : C → ℕ
cell_twos p = p.reads

cell_one_counts : (p : C) (a : WriterEvent Report) → (cell_ones (newest.next_value p (one a)) ≡ cell_ones p + 1) × (cell_twos (newest.next_value p (one a)) ≡ cell_twos p)
cell_one_counts p (writes.Store x) = (refl, refl)
cell_one_counts p (writes.Learn c) = (refl, refl)

cell_two_counts : (p : C) (b : ReaderEvent Report) → (cell_ones (newest.next_value p (two b)) ≡ cell_ones p) × (cell_twos (newest.next_value p (two b)) ≡ cell_twos p + 1)
cell_two_counts p b = (refl, refl)

writer_plain : (a : WriterEvent Report) → writer_is_mark a ≡ false → writer_named a ≡ 0
writer_plain (writes.Store x) is = refl
writer_plain (writes.Learn c) is = absurd (true≢false is)

reader_plain : (b : ReaderEvent Report) → reader_is_mark b ≡ false → reader_named b ≡ 0
reader_plain (reads.Load n x) is = refl
reader_plain (reads.Learn c) is = absurd (true≢false is)

writer_learns : (p : C) (a : WriterEvent Report) → newest.legal_value p (one a) → writer_named a ≤ cell_twos p
writer_learns p (writes.Store x) l = omega arith
writer_learns p (writes.Learn c) l = l

reader_learns : (p : C) (b : ReaderEvent Report) → newest.legal_value p (two b) → reader_named b ≤ cell_ones p
reader_learns p (reads.Load n x) l = omega arith
reader_learns p (reads.Learn c) l = l

cell_one_first : (p : C) (a : WriterEvent Report) (b : ReaderEvent Report) → (writer_is_mark a || reader_is_mark b) ≡ true → writer_named a ≤ cell_twos p → newest.legal_value p (two b) → newest.legal_value (newest.next_value p (two b)) (one a)
    → newest.legal_value p (one a) × newest.legal_value (newest.next_value p (one a)) (two b) × (newest.next_value (newest.next_value p (one a)) (two b) ≡ newest.next_value (newest.next_value p (two b)) (one a))
cell_one_first p (writes.Learn c) (reads.Load n x) marks few lb la = (few, lb, refl)
cell_one_first p (writes.Learn c) (reads.Learn k) marks few lb la = (few, omega (arith, lb), refl)
cell_one_first p (writes.Store y) (reads.Learn k) marks few lb la = (la, omega (arith, lb), refl)
cell_one_first p (writes.Store y) (reads.Load n x) marks few lb la = no marks

cell_two_first : (p : C) (a : WriterEvent Report) (b : ReaderEvent Report) → (writer_is_mark a || reader_is_mark b) ≡ true → reader_named b ≤ cell_ones p → newest.legal_value p (one a) → newest.legal_value (newest.next_value p (one a)) (two b)
    → newest.legal_value p (two b) × newest.legal_value (newest.next_value p (two b)) (one a) × (newest.next_value (newest.next_value p (two b)) (one a) ≡ newest.next_value (newest.next_value p (one a)) (two b))
cell_two_first p (writes.Learn c) (reads.Load n x) marks few la lb = (lb, omega (arith, la), refl)
cell_two_first p (writes.Learn c) (reads.Learn k) marks few la lb = (few, omega (arith, la), refl)
cell_two_first p (writes.Store y) (reads.Learn k) marks few la lb = (few, la, refl)
cell_two_first p (writes.Store y) (reads.Load n x) marks few la lb = no marks

report_passes : MarksPass newest.legal_value newest.next_value writer_marks reader_marks cell_ones cell_twos
report_passes = record {
  one_counts = cell_one_counts;
  two_counts = cell_two_counts;
  one_plain = writer_plain;
  two_plain = reader_plain;
  one_learns = writer_learns;
  two_learns = reader_learns;
  one_first = cell_one_first;
  two_first = cell_two_first;
}

pub report_forced : (told : ReportTold) → IsPhased writer_marks reader_marks told → HasReportHistory told → IsReportAsTold told
report_forced told phased h =
    (forced_from newest.legal_value newest.next_value writer_marks reader_marks cell_ones cell_twos report_passes (newest.start_value no_report) [] [] told h.order refl refl (omega arith) (omega arith) phased h.is_legal h.of_one h.of_two).0

-- ## The pipe

abbrev pipe_ones : PipePoint → ℕ
pipe_ones p = p.puts

abbrev pipe_twos : PipePoint → ℕ
pipe_twos p = p.takes

pipe_one_counts : (p : PipePoint) (a : ClientEvent) → (pipe_ones (piped.next_in_pipe p (one a)) ≡ pipe_ones p + 1) × (pipe_twos (piped.next_in_pipe p (one a)) ≡ pipe_twos p)
pipe_one_counts p (client.Release count) = (refl, refl)
pipe_one_counts p a = (refl, refl)

pipe_two_counts : (p : PipePoint) (b : ServerEvent) → (pipe_ones (piped.next_in_pipe p (two b)) ≡ pipe_ones p) × (pipe_twos (piped.next_in_pipe p (two b)) ≡ pipe_twos p + 1)
pipe_two_counts p (server.SawRear rear) = (refl, refl)
pipe_two_counts p (server.Take count) = (refl, refl)
pipe_two_counts p b = (refl, refl)

pub client_plain : (a : ClientEvent) → client_is_mark a ≡ false → client_named a ≡ 0
client_plain (client.Learn c) is = absurd (true≢false is)
client_plain a is = refl

pub server_plain : (b : ServerEvent) → server_is_mark b ≡ false → server_named b ≡ 0
server_plain (server.Learn c) is = absurd (true≢false is)
server_plain b is = refl

put_learns : (size : ℕ) (p : PipePoint) (a : ClientEvent) → piped.legal_in_pipe size p (one a) → client_named a ≤ pipe_twos p
put_learns size p (client.Learn c) l = l
put_learns size p a l = omega arith

take_learns : (size : ℕ) (p : PipePoint) (b : ServerEvent) → piped.legal_in_pipe size p (two b) → server_named b ≤ pipe_ones p
take_learns size p (server.Learn c) l = l
take_learns size p b l = omega arith

pipe_one_first : (size : ℕ) (p : PipePoint) (a : ClientEvent) (b : ServerEvent) → (client_is_mark a || server_is_mark b) ≡ true → client_named a ≤ pipe_twos p → piped.legal_in_pipe size p (two b) → piped.legal_in_pipe size (piped.next_in_pipe p (two b)) (one a)
    → piped.legal_in_pipe size p (one a) × piped.legal_in_pipe size (piped.next_in_pipe p (one a)) (two b) × (piped.next_in_pipe (piped.next_in_pipe p (one a)) (two b) ≡ piped.next_in_pipe (piped.next_in_pipe p (two b)) (one a))
pipe_one_first size p (client.Learn c) (server.SawRear rear) marks few lb la = (few, lb, refl)
pipe_one_first size p (client.Learn c) (server.SawFront front) marks few lb la = (few, lb, refl)
pipe_one_first size p (client.Learn c) (server.Take count) marks few lb la = (few, lb, refl)
pipe_one_first size p (client.Learn c) (server.Learn k) marks few lb la = (few, omega (arith, lb), refl)
pipe_one_first size p (client.Learn c) b marks few lb la = absurd lb
pipe_one_first size p (client.Release n) (server.Learn k) marks few lb la = (la, omega (arith, lb), refl)
pipe_one_first size p (client.Release n) b marks few lb la = no marks
pipe_one_first size p (client.SawFront n) (server.Learn k) marks few lb la = (la, omega (arith, lb), refl)
pipe_one_first size p (client.SawFront n) b marks few lb la = no marks
pipe_one_first size p a b marks few lb la = absurd la

pipe_two_first : (size : ℕ) (p : PipePoint) (a : ClientEvent) (b : ServerEvent) → (client_is_mark a || server_is_mark b) ≡ true → server_named b ≤ pipe_ones p → piped.legal_in_pipe size p (one a) → piped.legal_in_pipe size (piped.next_in_pipe p (one a)) (two b)
    → piped.legal_in_pipe size p (two b) × piped.legal_in_pipe size (piped.next_in_pipe p (two b)) (one a) × (piped.next_in_pipe (piped.next_in_pipe p (two b)) (one a) ≡ piped.next_in_pipe (piped.next_in_pipe p (one a)) (two b))
pipe_two_first size p (client.Learn c) (server.SawRear rear) marks few la lb = (lb, omega (arith, la), refl)
pipe_two_first size p (client.Learn c) (server.SawFront front) marks few la lb = (lb, omega (arith, la), refl)
pipe_two_first size p (client.Learn c) (server.Take count) marks few la lb = (lb, omega (arith, la), refl)
pipe_two_first size p (client.Learn c) (server.Learn k) marks few la lb = (few, omega (arith, la), refl)
pipe_two_first size p (client.Learn c) b marks few la lb = absurd lb
pipe_two_first size p (client.Release n) (server.Learn k) marks few la lb = (few, la, refl)
pipe_two_first size p (client.Release n) b marks few la lb = no marks
pipe_two_first size p (client.SawFront n) (server.Learn k) marks few la lb = (few, la, refl)
pipe_two_first size p (client.SawFront n) b marks few la lb = no marks
pipe_two_first size p a b marks few la lb = absurd la

pipe_passes : (size : ℕ) → MarksPass (piped.legal_in_pipe size) piped.next_in_pipe client_marks server_marks pipe_ones pipe_twos
pipe_passes size = record {
  one_counts = pipe_one_counts;
  two_counts = pipe_two_counts;
  one_plain = client_plain;
  two_plain = server_plain;
  one_learns = put_learns size;
  two_learns = take_learns size;
  one_first = pipe_one_first size;
  two_first = pipe_two_first size;
}

pub pipe_forced : (size : ℕ) (p : PipeTold) → IsPhased client_marks server_marks p.told → HasPipeTold size p → IsPipeAsTold size p
pipe_forced size p phased h =
    let f = forced_from (piped.legal_in_pipe size) piped.next_in_pipe client_marks server_marks pipe_ones pipe_twos (pipe_passes size) piped.start_of_pipe [] [] p.told h.history.order refl refl (omega arith) (omega arith) phased h.history.is_legal h.history.of_one h.history.of_two in (
      record {
        history = record { order = p.told; is_legal = f.0; of_one = refl; of_two = refl };
        put_is = ap (λ (q : PipePoint). q.put) f.1 ∙ h.put_is;
        taken_is = ap (λ (q : PipePoint). q.taken) f.1 ∙ h.taken_is;
        begins = h.begins;
      },
      refl,
    )
