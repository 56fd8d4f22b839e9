-- What a judge keeps of the queue, the report and the pipe of a run within a round: what both ends did up to their last meeting, and what they did since then.
use Rattle.std.specs.Prelude.{◌≡◌, ℕ, ◌+◌, ◌<◌, ◌≤◌, ◌==◌, ◌||◌, Bool, false, List, [], ◌∷◌, ◌++◌, drop, length, map, Option, Some, None}
use Rattle.af_base.specs.declared.report.Report.{Report}
use Rattle.af_base.specs.declared.state.FastState.{FastState}
use Rattle.af_model.specs.declared.newest.ReaderEvent.{ReaderEvent}
use Rattle.af_model.specs.declared.newest.ReaderEvent.TheVariants.{Load}
use Rattle.af_model.specs.declared.newest.WriterEvent.{WriterEvent}
use Rattle.af_model.specs.declared.newest.WriterEvent.TheVariants.{Store}
use Rattle.af_model.specs.declared.states.MutatorEvent.{MutatorEvent}
use Rattle.af_model.specs.declared.states.MutatorEvent.TheVariants as mutator
use Rattle.af_model.specs.declared.states.ObserverEvent.{ObserverEvent}
use Rattle.af_model.specs.declared.states.ObserverEvent.TheVariants as observer
use Rattle.af_model.specs.Draft.{initial}
use Rattle.af_model.specs.NewestValue as newest
use Rattle.af_model.specs.NewestValue.{CellPoint}
use Rattle.af_model.specs.Order.{Event, ones, twos, point_after, HasOrder}
use Rattle.af_model.specs.Reports.{no_report}
use Rattle.af_model.specs.StateQueue as queued
use Rattle.af_model.specs.StateQueue.{QueuePoint}
use Rattle.af_runs.specs.Runs.{Run, pipe_cells, report_of}
use Rattle.af_life.specs.Kept.{pipe_size}
use Rattle.af_runs.specs.Sessions.{Session, cycle_frames, setup_of}
use Rattle.af_runs.specs.Told.{Item, QueueTold, ReportTold, state_at, was_seen}
use Rattle.af_judge.specs.declared.queue_judge.MutatorStep.{MutatorStep}
use Rattle.af_judge.specs.declared.queue_judge.MutatorStep.TheVariants as steps
use Rattle.af_judge.specs.PipeKept.{AreEnds, HasPipeOrder, PipeKept, with_meeting}
use Rattle.af_judge.specs.QueueNumbers.{HasRoundOrder, QueueKept, numbers, observed}
use Rattle.af_judge.specs.QueueTold.{Fits, Follow, TellsLooks, TellsSteps}
use Rattle.af_judge.specs.ReportKept.{IsLoadOf, ReportKept}

-- ## Orders cut at a meeting

module _ {P A B : Type 0} (legal : P → Event A B → Type 0) (next : P → Event A B → P) where
  -- two lists have a legal order, which leaves this point, and each order of lists that go on goes on from there
  pub record IsCutAt (from point : P) (xs : List A) (ys : List B) : Type 0 where
    pub order : HasOrder legal next from xs ys
    pub leaves : point_after legal next from order.order ≡ point
    pub goes_on : (later : List A) (looks : List B) → HasOrder legal next from (xs ++ later) (ys ++ looks) → HasOrder legal next point later looks

-- ## The queue

-- how many states these steps push
abbrev pub pushes_in : List MutatorStep → ℕ
pushes_in [] = 0
pushes_in (steps.Saw number ∷ ss) = pushes_in ss
pushes_in (steps.Pushed number ∷ ss) = pushes_in ss + 1

-- how many states these events push
abbrev pub pushes_told : List (MutatorEvent Item) → ℕ
pushes_told [] = 0
pushes_told (mutator.Push k x items ∷ es) = pushes_told es + 1
pushes_told (mutator.SawAck a items ∷ es) = pushes_told es
pushes_told (mutator.Learn count ∷ es) = pushes_told es

-- the last state was seen acknowledged, after these steps
abbrev pub seen_after : ℕ → Bool → List MutatorStep → Bool
seen_after pushed seen [] = seen
seen_after pushed seen (steps.Saw number ∷ ss) = seen_after pushed (seen || (number == pushed)) ss
seen_after pushed seen (steps.Pushed number ∷ ss) = seen_after (pushed + 1) false ss

-- the states of these numbers are those pushed, number 0 the one before them
abbrev pub AreStates : ℕ → List FastState → (ℕ → FastState) → Type 0
AreStates frames states state = (k : ℕ) → k ≤ length states → state k ≡ state_at frames states k

-- What is kept of the queue, if each poll found a state that was pushed: the ends have a history up to their last meeting, which left these numbers, and the steps kept since then are what they did since then
pub record QueueFollows (frames : ℕ) (states : List FastState) (current : ℕ) (told : QueueTold) (q : QueueKept) : Type 0 where
  pub point : QueuePoint Item
  pub firsts : List (MutatorEvent Item)
  pub seconds : List (ObserverEvent Item)
  pub later : List (MutatorEvent Item)
  pub also : List (ObserverEvent Item)
  pub told_one : ones told ≡ firsts ++ later
  pub told_two : twos told ≡ seconds ++ also
  pub cut : IsCutAt queued.legal queued.next (queued.start_of_queue (initial frames)) point firsts seconds
  pub many_one : point.mutator.count ≡ length firsts
  pub many_two : point.observer.count ≡ length seconds
  pub fits : (state : ℕ → FastState) → Follow state → AreStates frames states state → Fits state point (numbers q.mutator q.observer) q.mutator.clear q.observer.acked
  pub tells_steps : (state : ℕ → FastState) → AreStates frames states state → TellsSteps state q.mutator.pushed q.mutator.clear later q.steps
  pub tells_looks : (state : ℕ → FastState) → AreStates frames states state → TellsLooks state q.observer.acked also q.looks
  pub pushed : q.mutator.pushed + pushes_in q.steps ≡ length states
  pub pushes : pushes_told (ones told) ≡ length states
  pub current_is : (observed q.observer q.looks).acked ≡ current
  pub none_due : (observed q.observer q.looks).due ≡ 0
  pub known : current ≤ length states
  pub seen : seen_after q.mutator.pushed q.mutator.clear q.steps ≡ ((length states == 0) || was_seen (length states) told)
  pub none_beyond : (k : ℕ) → length states < k → was_seen k told ≡ false

-- what is kept of the queue of a run in which each poll found a state that was pushed
abbrev pub QueueGoes : Session → Run → QueueKept → Type 0
QueueGoes s run q = QueueFollows (cycle_frames s) run.states run.current run.queue q

-- ## The report

-- a load since the last meeting, if there was one
abbrev pub loads_of : List Report → Option ℕ → List (ReaderEvent Report)
loads_of reports None = []
loads_of reports (Some number) = Load number (report_of reports number) ∷ []

-- What is kept of the report: its ends have a history up to their last meeting, after which the other reports were stored and one was loaded or none
pub record ReportFollows (reports : List Report) (told : ReportTold) (r : ReportKept) : Type 0 where
  pub point : CellPoint Report
  pub firsts : List (WriterEvent Report)
  pub seconds : List (ReaderEvent Report)
  pub told_one : ones told ≡ firsts ++ map (λ x. Store x) (drop r.met reports)
  pub told_two : twos told ≡ seconds ++ loads_of reports r.loaded
  pub cut : IsCutAt newest.legal_value newest.next_value (newest.start_value no_report) point firsts seconds
  pub many_one : point.writes ≡ length firsts
  pub many_two : point.reads ≡ length seconds
  pub number : point.number ≡ r.met
  pub value : point.value ≡ report_of reports r.met
  pub within : r.met ≤ length reports

-- what is kept of the report of a run, in which each entry stored one
pub record ReportOf (s : Session) (run : Run) (r : ReportKept) : Type 0 where
  pub stored : length run.reports ≡ length run.entries
  pub follows : ReportFollows run.reports run.report r

-- ## The pipe

-- what is kept of the pipe of a run
pub record PipeOf (s : Session) (run : Run) (p : PipeKept) : Type 0 where
  pub size : p.size ≡ pipe_size (setup_of s)
  pub cells : p.cells ≡ pipe_cells (setup_of s)
  pub puts : p.puts ≡ ones run.pipe.told
  pub takes : p.takes ≡ twos run.pipe.told
  pub put : p.put ≡ run.pipe.put
  pub taken : p.taken ≡ run.pipe.taken

-- ## All three

-- what is kept of the report and of the pipe, if all turns so far were legal, and how many states were pushed
pub record BesideQueue (s : Session) (run : Run) (r : ReportKept) (p : PipeKept) : Type 0 where
  pub report : ReportOf s run r
  pub pipe : PipeOf s run p
  pub ends : AreEnds p
  pub pushed : run.normal.pushed ≡ length run.states

-- the judge finds that the queue, the pipe and the report have their histories
pub record AreRight (stored : ℕ) (q : QueueKept) (r : ReportKept) (p : PipeKept) : Type 0 where
  pub queue : HasRoundOrder q
  pub pipe : HasPipeOrder (with_meeting p)
  pub report : IsLoadOf stored r
