-- What an event of one party sees of another party's list, and what it had learnt of it.
use Rattle.std.specs.Prelude.{◌≡◌, ℕ, ◌+◌, ◌≤◌, true, List, [], ◌∷◌, ◌++◌, length, fold, Option}
use Rattle.af_base.specs.declared.event.ClientEvent.{ClientEvent}
use Rattle.af_base.specs.declared.event.ClientEvent.TheVariants as client
use Rattle.af_base.specs.declared.event.HandEvent.{HandEvent}
use Rattle.af_base.specs.declared.event.ServerEvent.{ServerEvent}
use Rattle.af_base.specs.declared.event.ServerEvent.TheVariants as server
use Rattle.af_base.specs.declared.state.FastState.{FastState}
use Rattle.af_model.specs.declared.newest.ReaderEvent.{ReaderEvent}
use Rattle.af_model.specs.declared.newest.ReaderEvent.TheVariants as reads
use Rattle.af_model.specs.declared.newest.WriterEvent.{WriterEvent}
use Rattle.af_model.specs.declared.newest.WriterEvent.TheVariants as writes
use Rattle.af_model.specs.Order.{HasOrder}
use Rattle.af_model.specs.Reports.{no_report}
use Rattle.af_runs.specs.Told.{Item}
use Rattle.af_base.specs.declared.report.Report.{Report}
use Rattle.af_model.specs.declared.shape.Shape.{Shape}
use Rattle.af_model.specs.declared.states.MutatorEvent.{MutatorEvent}
use Rattle.af_model.specs.declared.states.MutatorEvent.TheVariants as mutator
use Rattle.af_model.specs.declared.states.ObserverEvent.{ObserverEvent}
use Rattle.af_model.specs.declared.states.ObserverEvent.TheVariants as observer
use Rattle.af_model.specs.Fates.{drops_none}
use Rattle.af_model.specs.History as block
use Rattle.af_model.specs.NewestValue as newest
use Rattle.af_model.specs.PipeHistory as piped
use Rattle.af_model.specs.Point.{wrapped}
use Rattle.af_model.specs.StateQueue as queued
use Rattle.af_model.specs.StateQueue.{mutated, observed}

-- an event stands in a list
pub record Stands {X : Type 0} (x : X) (xs : List X) : Type 0 where
  pub before : List X
  pub behind : List X
  pub whole : xs ≡ before ++ x ∷ behind

-- A beginning of the other party's list shows this. It has all that was learnt of that list: so many of its events as each of these numbers says
pub record Sees {B : Type 0} (others : List B) (Learnt : ℕ → Type 0) (Shows : List B → Type 0) : Type 0 where
  pub front : List B
  pub rest : List B
  pub whole : others ≡ front ++ rest
  pub learnt : (n : ℕ) → Learnt n → n ≤ length front
  pub shows : Shows front

-- ## The queue

-- the mutator's look at the acknowledgement, between these events of its list, sees the last state acknowledged in a beginning of the observer's list that has all that was learnt
abbrev pub AckIsSeen : FastState → (before behind : List (MutatorEvent Item)) → List (ObserverEvent Item) → ℕ → List (Option Item) → Type 0
AckIsSeen first before behind others a items = queued.HasStateHistory first (before ++ mutator.SawAck a items ∷ behind) others
    → Sees others (λ n. Stands (mutator.Learn n) before) (λ front. a ≡ (observed front).acked)

-- the observer's look for a state sees the last one pushed in a beginning of the mutator's list that has all that was learnt
abbrev pub NextIsSeen : FastState → (before behind : List (ObserverEvent Item)) → List (MutatorEvent Item) → ℕ → Option FastState → List (Option Item) → Type 0
NextIsSeen first before behind others k x items = queued.HasStateHistory first others (before ++ observer.SawNext k x items ∷ behind)
    → Sees others (λ n. Stands (observer.Learn n) before) (λ front. k ≡ (mutated first front).pushed)

-- ## The report

-- how many values were stored
abbrev pub stored_by : WriterEvent Report → ℕ
stored_by (writes.Store x) = 1
stored_by (writes.Learn n) = 0

abbrev pub stored : List (WriterEvent Report) → ℕ
stored [] = 0
stored (w ∷ ws) = stored_by w + stored ws

-- a load has the number of the last report stored in a beginning of the writer's list that has all that was learnt
abbrev pub LoadIsSeen : (before behind : List (ReaderEvent Report)) → List (WriterEvent Report) → ℕ → Report → Type 0
LoadIsSeen before behind others n x = newest.HasValueHistory no_report others (before ++ reads.Load n x ∷ behind)
    → Sees others (λ k. Stands (reads.Learn k) before) (λ front. n ≡ stored front)

-- ## The pipe

-- how many frames the events of the putting end put
abbrev pub put_by : ClientEvent → ℕ
put_by (client.Release count) = count
put_by _ = 0

abbrev pub frames_put : List ClientEvent → ℕ
frames_put [] = 0
frames_put (e ∷ es) = put_by e + frames_put es

-- how many frames the events of the taking end take
abbrev pub taken_by : ServerEvent → ℕ
taken_by (server.Take count) = count
taken_by _ = 0

abbrev pub frames_taken : List ServerEvent → ℕ
frames_taken [] = 0
frames_taken (e ∷ es) = taken_by e + frames_taken es

-- the front that the putting end sees is the word of the frames taken in a beginning of the other end's list that has all that was learnt
abbrev pub RoomIsSeen : ℕ → (before behind : List ClientEvent) → List ServerEvent → ℕ → Type 0
RoomIsSeen size before behind others front = HasOrder (piped.legal_in_pipe size) piped.next_in_pipe piped.start_of_pipe (before ++ client.SawFront front ∷ behind) others
    → Sees others (λ n. Stands (client.Learn n) before) (λ seen. front ≡ wrapped (frames_taken seen))

-- the rear that the taking end sees is the word of the frames put in a beginning of the other end's list that has all that was learnt
abbrev pub RearIsSeen : ℕ → (before behind : List ServerEvent) → List ClientEvent → ℕ → Type 0
RearIsSeen size before behind others rear = HasOrder (piped.legal_in_pipe size) piped.next_in_pipe piped.start_of_pipe others (before ++ server.SawRear rear ∷ behind)
    → Sees others (λ n. Stands (server.Learn n) before) (λ seen. rear ≡ wrapped (frames_put seen))

-- ## A block

-- the status word after some events of a server
abbrev pub status_by : ℕ → ServerEvent → ℕ
status_by word (server.SetStatus next) = next
status_by word _ = word

abbrev pub last_status : List ServerEvent → ℕ
last_status events = fold status_by 0 events

-- if nothing is dropped, the front that a client sees is the word of the frames taken in a beginning of the server's list that has all that was learnt
abbrev pub FrontIsSeen : Shape → (before behind : List ClientEvent) → List ServerEvent → ℕ → (released taken : List ℕ) → List HandEvent → Type 0
FrontIsSeen k before behind others front released taken hand = block.HasHistory k (before ++ client.SawFront front ∷ behind) released others taken hand → drops_none others ≡ true
    → Sees others (λ n. Stands (client.Learn n) before) (λ seen. front ≡ wrapped (k.base + frames_taken seen))

-- the status that a client sees is the last one stored in a beginning of the server's list that has all that was learnt
abbrev pub StatusIsSeen : Shape → (before behind : List ClientEvent) → List ServerEvent → ℕ → (released taken : List ℕ) → List HandEvent → Type 0
StatusIsSeen k before behind others word released taken hand = block.HasHistory k (before ++ client.SawStatus word ∷ behind) released others taken hand
    → Sees others (λ n. Stands (client.Learn n) before) (λ seen. word ≡ last_status seen)

-- the rear that a server sees is the word of the frames released in a beginning of the client's list that has all that was learnt
abbrev pub BlockRearIsSeen : Shape → (before behind : List ServerEvent) → List ClientEvent → ℕ → (released taken : List ℕ) → List HandEvent → Type 0
BlockRearIsSeen k before behind others rear released taken hand = block.HasHistory k others released (before ++ server.SawRear rear ∷ behind) taken hand
    → Sees others (λ n. Stands (server.Learn n) before) (λ seen. rear ≡ wrapped (k.base + frames_put seen))
