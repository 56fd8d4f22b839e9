-- What was learnt of the queue, the report and the pipe is seen.
use Rattle.std.proofs.Common.{◌≡◌, ℕ, ◌+◌, List, [], ◌∷◌, ◌++◌, fold, refl, ap, ◌∙◌, arith, Option}
use Rattle.af_enough_law.proofs.Common.{ClientEvent, Event, FastState, Item, MutatorEvent, MutatorPoint, ObserverEvent, ObserverPoint, QueuePoint, ReaderEvent, Report, ServerEvent, WriterEvent, mutator_next, no_report, observed, observer_next, one, ones, two, wrapped}
use Rattle.af_base.specs.declared.event.ClientEvent.TheVariants as client
use Rattle.af_base.specs.declared.event.ServerEvent.TheVariants as server
use Rattle.af_model.specs.declared.newest.ReaderEvent.TheVariants as reads
use Rattle.af_model.specs.declared.newest.WriterEvent.TheVariants as writes
use Rattle.af_model.specs.declared.states.MutatorEvent.TheVariants as mutator
use Rattle.af_model.specs.declared.states.ObserverEvent.TheVariants as observer
use Rattle.af_model.specs.NewestValue as newest
use Rattle.af_model.specs.Order.{point_after}
use Rattle.af_model.specs.PipeHistory as piped
use Rattle.af_model.specs.StateQueue as queued
use Rattle.af_model.specs.StateQueue.{mutated}
use Rattle.af_enough_law.specs.Seen.{AckIsSeen, NextIsSeen, stored, LoadIsSeen, put_by, frames_put, taken_by, frames_taken, RoomIsSeen, RearIsSeen}
use Rattle.af_enough_law.proofs.Standing.{swapped, legal_swapped, next_swapped, sees_first}

-- ## The queue

abbrev Told : Type 0
Told = Event (MutatorEvent Item) (ObserverEvent Item)

-- each half of a point is what the events of its end leave
pub mutator_half : (p : QueuePoint Item) (es : List Told) → (point_after queued.legal queued.next p es).mutator ≡ fold mutator_next p.mutator (ones es)
mutator_half p [] = refl
mutator_half p (one e ∷ es) = mutator_half (queued.next p (one e)) es
mutator_half p (two e ∷ es) = mutator_half (queued.next p (two e)) es

counts_mutator : (m : MutatorPoint Item) (e : MutatorEvent Item) → (mutator_next m e).count ≡ m.count + 1
counts_mutator m (mutator.Push k x items) = refl
counts_mutator m (mutator.SawAck a items) = refl
counts_mutator m (mutator.Learn n) = refl

counts_observer : (o : ObserverPoint Item) (e : ObserverEvent Item) → (observer_next o e).count ≡ o.count + 1
counts_observer o (observer.SawNext k x items) = refl
counts_observer o (observer.Ack k items) = refl
counts_observer o (observer.Learn n) = refl

pub next_seen : (first : FastState) (before behind : List (ObserverEvent Item)) (others : List (MutatorEvent Item)) (k : ℕ) (x : Option FastState) (items : List (Option Item)) → NextIsSeen first before behind others k x items
next_seen first before behind others k x items h =
    sees_first queued.legal queued.next (λ p. p.mutator.count) observer.Learn (λ p e. counts_mutator p.mutator e) (λ p e. refl) (λ p n l. l.0)
    (queued.start_of_queue first) others before behind (observer.SawNext k x items) (λ front. k ≡ (mutated first front).pushed) refl h
    (λ es l. l.0 ∙ ap (λ (m : MutatorPoint Item). m.pushed) (mutator_half (queued.start_of_queue first) es))

-- an order of the queue, seen from the other end
swapped_half : (p : QueuePoint Item) (es : List (Event (ObserverEvent Item) (MutatorEvent Item)))
    → (point_after (legal_swapped queued.legal queued.next) (next_swapped queued.legal queued.next) p es).observer ≡ fold observer_next p.observer (ones es)
swapped_half p [] = refl
swapped_half p (one e ∷ es) = swapped_half (queued.next p (two e)) es
swapped_half p (two e ∷ es) = swapped_half (queued.next p (one e)) es

pub ack_seen : (first : FastState) (before behind : List (MutatorEvent Item)) (others : List (ObserverEvent Item)) (a : ℕ) (items : List (Option Item)) → AckIsSeen first before behind others a items
ack_seen first before behind others a items h =
    sees_first (legal_swapped queued.legal queued.next) (next_swapped queued.legal queued.next) (λ p. p.observer.count) mutator.Learn (λ p e. counts_observer p.observer e) (λ p e. refl) (λ p n l. l)
    (queued.start_of_queue first) others before behind (mutator.SawAck a items) (λ front. a ≡ (observed front).acked) refl (swapped queued.legal queued.next (queued.start_of_queue first) (before ++ mutator.SawAck a items ∷ behind) others h)
    (λ es l. l.0 ∙ ap (λ (o : ObserverPoint Item). o.acked) (swapped_half (queued.start_of_queue first) es))

-- ## The report

writes_counted : (p : newest.CellPoint Report) (e : WriterEvent Report) → (newest.next_value p (one e)).writes ≡ p.writes + 1
writes_counted p (writes.Store x) = refl
writes_counted p (writes.Learn n) = refl

stored_after : (p : newest.CellPoint Report) (es : List (Event (WriterEvent Report) (ReaderEvent Report))) → (point_after newest.legal_value newest.next_value p es).number ≡ p.number + stored (ones es)
stored_after p [] = omega arith
stored_after p (one (writes.Store x) ∷ es) = let rest = stored_after (newest.next_value p (one (writes.Store x))) es in omega arith
stored_after p (one (writes.Learn n) ∷ es) = let rest = stored_after (newest.next_value p (one (writes.Learn n))) es in omega arith
stored_after p (two e ∷ es) = stored_after (newest.next_value p (two e)) es

pub load_seen : (before behind : List (ReaderEvent Report)) (others : List (WriterEvent Report)) (n : ℕ) (x : Report) → LoadIsSeen before behind others n x
load_seen before behind others n x h =
    sees_first newest.legal_value newest.next_value (λ p. p.writes) reads.Learn writes_counted (λ p e. refl) (λ p k l. l)
    (newest.start_value no_report) others before behind (reads.Load n x) (λ front. n ≡ stored front) refl h
    (λ es l. let is = l.0 in let now = stored_after (newest.start_value no_report) es in omega arith)

-- ## The pipe

pub puts_counted : (p : piped.PipePoint) (e : ClientEvent) → (piped.next_in_pipe p (one e)).puts ≡ p.puts + 1
puts_counted p (client.Release count) = refl
puts_counted p _ = refl

pub takes_counted : (p : piped.PipePoint) (e : ServerEvent) → (piped.next_in_pipe p (two e)).takes ≡ p.takes + 1
takes_counted p (server.SawGain word) = refl
takes_counted p _ = refl

pub puts_take_none : (p : piped.PipePoint) (e : ClientEvent) → (piped.next_in_pipe p (one e)).takes ≡ p.takes
puts_take_none p (client.Release count) = refl
puts_take_none p _ = refl

pub takes_put_none : (p : piped.PipePoint) (e : ServerEvent) → (piped.next_in_pipe p (two e)).puts ≡ p.puts
takes_put_none p (server.SawGain word) = refl
takes_put_none p _ = refl

pub put_more : (p : piped.PipePoint) (e : ClientEvent) → (piped.next_in_pipe p (one e)).put ≡ p.put + put_by e
put_more p (client.Release count) = refl
put_more p _ = omega arith

pub put_same : (p : piped.PipePoint) (e : ServerEvent) → (piped.next_in_pipe p (two e)).put ≡ p.put
put_same p (server.SawGain word) = refl
put_same p _ = refl

pub taken_more : (p : piped.PipePoint) (e : ServerEvent) → (piped.next_in_pipe p (two e)).taken ≡ p.taken + taken_by e
taken_more p (server.Take count) = refl
taken_more p _ = omega arith

pub taken_same : (p : piped.PipePoint) (e : ClientEvent) → (piped.next_in_pipe p (one e)).taken ≡ p.taken
taken_same p (client.Release count) = refl
taken_same p _ = refl

module _ (size : ℕ) where
  pub put_after : (p : piped.PipePoint) (es : List (Event ClientEvent ServerEvent)) → (point_after (piped.legal_in_pipe size) piped.next_in_pipe p es).put ≡ p.put + frames_put (ones es)
  put_after p [] = omega arith
  put_after p (one e ∷ es) = let rest = put_after (piped.next_in_pipe p (one e)) es in let now = put_more p e in omega arith
  put_after p (two e ∷ es) = let rest = put_after (piped.next_in_pipe p (two e)) es in let now = put_same p e in omega arith

  pub taken_after : (p : piped.PipePoint) (es : List (Event ServerEvent ClientEvent))
      → (point_after (legal_swapped (piped.legal_in_pipe size) piped.next_in_pipe) (next_swapped (piped.legal_in_pipe size) piped.next_in_pipe) p es).taken ≡ p.taken + frames_taken (ones es)
  taken_after p [] = omega arith
  taken_after p (one e ∷ es) = let rest = taken_after (piped.next_in_pipe p (two e)) es in let now = taken_more p e in omega arith
  taken_after p (two e ∷ es) = let rest = taken_after (piped.next_in_pipe p (one e)) es in let now = taken_same p e in omega arith

pub rear_seen : (size : ℕ) (before behind : List ServerEvent) (others : List ClientEvent) (rear : ℕ) → RearIsSeen size before behind others rear
rear_seen size before behind others rear h =
    sees_first (piped.legal_in_pipe size) piped.next_in_pipe (λ p. p.puts) server.Learn puts_counted takes_put_none (λ p n l. l)
    piped.start_of_pipe others before behind (server.SawRear rear) (λ seen. rear ≡ wrapped (frames_put seen)) refl h
    (λ es l. l ∙ ap wrapped (let now = put_after size piped.start_of_pipe es in omega arith))

pub room_seen : (size : ℕ) (before behind : List ClientEvent) (others : List ServerEvent) (front : ℕ) → RoomIsSeen size before behind others front
room_seen size before behind others front h =
    sees_first (legal_swapped (piped.legal_in_pipe size) piped.next_in_pipe) (next_swapped (piped.legal_in_pipe size) piped.next_in_pipe) (λ p. p.takes) client.Learn takes_counted puts_take_none (λ p n l. l)
    piped.start_of_pipe others before behind (client.SawFront front) (λ seen. front ≡ wrapped (frames_taken seen)) refl (swapped (piped.legal_in_pipe size) piped.next_in_pipe piped.start_of_pipe (before ++ client.SawFront front ∷ behind) others h)
    (λ es l. l.0 ∙ ap wrapped (let now = taken_after size piped.start_of_pipe es in omega arith))
