-- What a journal tells of the queue, the report and the pipe: the events of their ends, in the order in which they are told. Which item a slot has is told by the states, so items are only marked.
use Rattle.std.specs.Prelude.{◌≡◌, ℕ, ◌-◌, ◌==◌, ◌&&◌, ◌||◌, not, Bool, true, false, if◌then◌else◌, unwrap_or, List, [], ◌∷◌, ◌++◌, map, length, Option, Some, None}
use Rattle.std.specs.List.{range_with_len, list_any}
use Rattle.af_base.specs.declared.event.ClientEvent.{ClientEvent}
use Rattle.af_base.specs.declared.event.ClientEvent.TheVariants as client
use Rattle.af_base.specs.declared.event.ServerEvent.{ServerEvent}
use Rattle.af_base.specs.declared.event.ServerEvent.TheVariants as server
use Rattle.af_base.specs.declared.report.Report.{Report}
use Rattle.af_base.specs.declared.state.FastState.{FastState}
use Rattle.af_base.specs.declared.state.Push.{Push}
use Rattle.af_base.specs.declared.state.Push.TheVariants as pushing
use Rattle.af_model.specs.declared.newest.WriterEvent.{WriterEvent}
use Rattle.af_model.specs.declared.newest.WriterEvent.TheVariants as writes
use Rattle.af_model.specs.declared.newest.ReaderEvent.{ReaderEvent}
use Rattle.af_model.specs.declared.newest.ReaderEvent.TheVariants as reads
use Rattle.af_model.specs.declared.states.MutatorEvent.{MutatorEvent}
use Rattle.af_model.specs.declared.states.MutatorEvent.TheVariants as mutator
use Rattle.af_model.specs.declared.states.ObserverEvent.{ObserverEvent}
use Rattle.af_model.specs.declared.states.ObserverEvent.TheVariants as observer
use Rattle.af_model.specs.Cycles.{state_of}
use Rattle.af_model.specs.Draft.{initial}
use Rattle.af_model.specs.Order.{Event, one, two, ones, twos, Legal}
use Rattle.af_model.specs.NewestValue as newest
use Rattle.af_model.specs.PipeHistory as piped
use Rattle.af_model.specs.Reports.{no_report}
use Rattle.af_model.specs.StateQueue as queued
use Rattle.af_model.specs.StateQueue.{slots, carries}

-- an item that is there
abbrev pub Item : Type 0
Item = Unit {0}

-- the events of the queue's mutator and of its observer
abbrev pub QueueTold : Type 0
QueueTold = List (Event (MutatorEvent Item) (ObserverEvent Item))

-- the events of the report's writer and of its reader
abbrev pub ReportTold : Type 0
ReportTold = List (Event (WriterEvent Report) (ReaderEvent Report))

-- the events of the pipe's ends, and the words of the frames put and taken
pub record PipeTold : Type 0 where
  pub told : List (Event ClientEvent ServerEvent)
  pub put : List ℕ
  pub taken : List ℕ

-- ## The queue

-- the state of a number; number 0, or one that isn't pushed, has the state that carries nothing
abbrev pub state_at : ℕ → List FastState → ℕ → FastState
state_at frames states k = unwrap_or (state_of states k) (initial frames)

-- a mark for each slot that one state carries and another doesn't
abbrev pub items_of : FastState → FastState → List (Option Item)
items_of x y = map (λ i. if carries x i && not (carries y i) then Some tt else None) (range_with_len 0 slots)

-- the event is a look that sees the state k acknowledged
abbrev pub is_look_at : ℕ → MutatorEvent Item → Bool
is_look_at k (mutator.SawAck a items) = a == k
is_look_at k _ = false

-- the state k was seen acknowledged
abbrev pub was_seen : ℕ → QueueTold → Bool
was_seen k told = list_any (is_look_at k) (ones told)

-- the items that a look brings which sees the state a acknowledged: the first one that sees the last state so brings those of the slots that went off with it
abbrev pub brought_by : ℕ → List FastState → ℕ → QueueTold → List (Option Item)
brought_by frames states a told =
    let last = length states in
    if (a == last) && not ((last == 0) || was_seen last told) then items_of (state_at frames states (last - 1)) (state_at frames states last) else []

-- a push was made
abbrev pub is_pushed : Push → Bool
is_pushed (pushing.Pushed number) = true
is_pushed _ = false

-- the mutator did these events
abbrev pub mutator_does : List (MutatorEvent Item) → QueueTold → QueueTold
mutator_does events told = told ++ map one events

-- the observer did these events
abbrev pub observer_does : List (ObserverEvent Item) → QueueTold → QueueTold
observer_does events told = told ++ map two events

-- the observer's poll that finds the state k, when it has the state c: a new state takes the items of its new slots, and gives back those of the slots that went off
abbrev pub poll_events : ℕ → List FastState → ℕ → ℕ → List (ObserverEvent Item)
poll_events frames states c k =
    let x = state_at frames states k in
    let y = state_at frames states c in
    if k == c then observer.SawNext k None [] ∷ []
    else observer.SawNext k (Some x) (items_of x y) ∷ observer.Ack k (items_of y x) ∷ []

-- the queue's ends meet
abbrev pub queue_met : QueueTold → QueueTold
queue_met told = told ++ one (mutator.Learn (length (twos told))) ∷ two (observer.Learn (length (ones told))) ∷ []

-- the lists of the queue's ends stand in some legal order
abbrev pub HasQueueHistory : ℕ → QueueTold → Type 0
HasQueueHistory frames told = queued.HasStateHistory (initial frames) (ones told) (twos told)

-- the order in which the queue's events are told is legal
abbrev pub IsQueueAsTold : ℕ → QueueTold → Type 0
IsQueueAsTold frames told = Legal queued.legal queued.next (queued.start_of_queue (initial frames)) told

-- ## The report

-- the report's ends meet
abbrev pub report_met : ReportTold → ReportTold
report_met told = told ++ one (writes.Learn (length (twos told))) ∷ two (reads.Learn (length (ones told))) ∷ []

-- the lists of the report's ends stand in some legal order
abbrev pub HasReportHistory : ReportTold → Type 0
HasReportHistory told = newest.HasValueHistory no_report (ones told) (twos told)

-- the order in which the report's events are told is legal
abbrev pub IsReportAsTold : ReportTold → Type 0
IsReportAsTold told = Legal newest.legal_value newest.next_value (newest.start_value no_report) told

-- ## The pipe

-- the pipe's ends meet
abbrev pub pipe_met : PipeTold → PipeTold
pipe_met p = record p { told = p.told ++ one (client.Learn (length (twos p.told))) ∷ two (server.Learn (length (ones p.told))) ∷ [] }

-- the lists of the pipe's ends stand in some legal order, and the frames taken begin those put
abbrev pub HasPipeTold : ℕ → PipeTold → Type 0
HasPipeTold size p = piped.HasPipeHistory size (ones p.told) p.put (twos p.told) p.taken

-- the order in which the pipe's events are told is such an order
abbrev pub IsPipeAsTold : ℕ → PipeTold → Type 0
IsPipeAsTold size p = (h : HasPipeTold size p) × (h.history.order ≡ p.told)
