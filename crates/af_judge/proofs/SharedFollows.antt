-- What is kept of the queue, the report and the pipe follows a round, and the judge's answer at the meeting is that of the run.
use Rattle.std.specs.Prelude.{◌↔◌, if◌then◌else◌}
use Rattle.std.proofs.Common.{◌≡◌, ℕ, ◌≤◌, Bool, true, false, List, length, None, refl, ap, ◌∙◌, arith}
use Rattle.af_judge.proofs.Common.{EntrySeen, Frame, LegalTurnBy, Marks, RoundSeen, Run, Session, SharedHistories, Turn, TurnFound, cycle_frames, each_track, ends, met, new_run, pipe_cells, pipe_size, setup_of, state_at, with_calls, with_cycle, with_ends, with_load, with_mix, with_poll, with_turn}
use Rattle.af_judge.proofs.Words.{StandsIn}
use Rattle.af_judge.specs.FastKept.{pipe_played}
use Rattle.af_judge.specs.PipeKept.{PipeKept, new_pipe, with_meeting}
use Rattle.af_judge.specs.QueueNumbers.{QueueKept, met as met_kept, poll_steps, with_looks}
use Rattle.af_judge.specs.QueueTold.{Follow}
use Rattle.af_judge.specs.ReportKept.{ReportKept}
use Rattle.af_judge.specs.SharedTold.{AreRight, BesideQueue, QueueGoes}
use Rattle.af_judge.proofs.Words.{QueueOf, pipe_noted}
use Rattle.af_judge.proofs.PipeFollows.{ends_first, ends_met, ends_mixed, ends_turned, pipe_called, pipe_ended, pipe_first, pipe_judged, pipe_loaded, pipe_met_so, pipe_mixed, pipe_polled, pipe_turned}
use Rattle.af_judge.proofs.QueueRun.{PushesOpen, goes_mixed, goes_polled, pushed_turned, queue_judged, queue_met, queue_mixed, queue_polled}
use Rattle.af_judge.proofs.ReportFollows.{loaded_by, report_called, report_ended, report_first, report_judged, report_met_so, report_mixed, report_of_turn, report_polled, report_turned}

-- what is kept beside the queue before the first round
pub beside_first : (s : Session) → pipe_size (setup_of s) ≤ 65536 → BesideQueue s (new_run s) (record { met = 0; loaded = None }) (new_pipe (pipe_size (setup_of s)) (pipe_cells (setup_of s)))
beside_first s small = record { report = report_first s; pipe = pipe_first s; ends = ends_first (pipe_size (setup_of s)) (pipe_cells (setup_of s)) small; pushed = refl }

-- the clients' calls
pub beside_called : (s : Session) (round : RoundSeen) (run : Run) (r : ReportKept) (p : PipeKept) → BesideQueue s run r p → BesideQueue s (with_calls round run) r p
unfolding with_calls
beside_called s round run r p h = record { report = report_called s round run r h.report; pipe = pipe_called s round run p h.pipe; ends = h.ends; pushed = h.pushed }

-- an entry
pub beside_polled : (s : Session) (k : ℕ) (run : Run) (r : ReportKept) (p : PipeKept) → BesideQueue s run r p → BesideQueue s (with_poll s k run) r p
unfolding with_poll
beside_polled s k run r p h = record { report = report_polled s k run r h.report; pipe = pipe_polled s k run p h.pipe; ends = h.ends; pushed = h.pushed }

pub beside_mixed : (s : Session) (e : EntrySeen) (run : Run) (r : ReportKept) (p : PipeKept) (frames : List Frame) → StandsIn frames e → r.loaded ≡ None → BesideQueue s run r p → BesideQueue s (with_mix s e run) r (pipe_played frames e.entry p)
unfolding with_mix
beside_mixed s e run r p frames stands none h = record {
  report = report_mixed s e run r none h.report;
  pipe = pipe_mixed s e run p frames (stands.same 0 (omega arith)) h.pipe;
  ends = ends_mixed frames e p (ap (λ (l : List Frame). length l) (stands.same 0 (omega arith)) ∙ stands.many 0 (omega arith)) h.ends;
  pushed = h.pushed;
}

pub beside_cycle : (s : Session) (e : EntrySeen) (run : Run) (r : ReportKept) (p : PipeKept) (frames : List Frame) → StandsIn frames e → r.loaded ≡ None → BesideQueue s run r p → BesideQueue s (with_cycle s run e) r (pipe_played frames e.entry p)
beside_cycle s e run r p frames stands none h = beside_mixed s e (with_poll s e.entry.state run) r p frames stands none (beside_polled s e.entry.state run r p h)

-- what is kept of the queue follows a cycle of a state that was pushed, and any cycle
pub goes_cycle : (s : Session) (e : EntrySeen) (run : Run) (q : QueueKept) → e.entry.state ≤ length run.states → QueueGoes s run q → QueueGoes s (with_cycle s run e) (with_looks (poll_steps run.current e.entry.state) q)
goes_cycle s e run q low h = goes_mixed s e (with_poll s e.entry.state run) (with_looks (poll_steps run.current e.entry.state) q) (goes_polled s e.entry.state run q low h)

pub queue_cycle : (s : Session) (e : EntrySeen) (run : Run) (q : QueueKept) → QueueOf s run q → QueueOf s (with_cycle s run e) (with_looks (poll_steps run.current e.entry.state) q)
queue_cycle s e run q h = queue_mixed s e (with_poll s e.entry.state run) (with_looks (poll_steps run.current e.entry.state) q) (queue_polled s e.entry.state run q h)

-- a legal turn, and its load
pub beside_turned : (s : Session) (marks : Marks) (f : TurnFound) (e : Turn) (run : Run) (r : ReportKept) (p : PipeKept) → PushesOpen e → LegalTurnBy (setup_of s) marks f run.normal e → BesideQueue s run r p → BesideQueue s (with_turn s f e run) r (pipe_noted s e p)
beside_turned s marks f e run r p opens legal h = record {
  report = report_turned s f e run r h.report;
  pipe = pipe_turned s f e run p h.pipe;
  ends = ends_turned s marks f run.normal e p legal h.pipe.size h.ends;
  pushed = pushed_turned s f e run opens h.pushed;
}

pub beside_loaded : (s : Session) (e : Turn) (run : Run) (r : ReportKept) (p : PipeKept) → r.loaded ≡ None → BesideQueue s run r p → BesideQueue s (with_load e run) (loaded_by e r) p
unfolding with_load
beside_loaded s e run r p none h = record { report = report_of_turn s e run r none h.report; pipe = pipe_loaded s e run p h.pipe; ends = h.ends; pushed = h.pushed }

-- ## The meeting

-- the judge's answer is that of the run
pub shared_judged : (s : Session) (run : Run) (q : QueueKept) (r : ReportKept) (p : PipeKept) → Follow (state_at (cycle_frames s) run.states) → QueueOf s run q → BesideQueue s run r p → AreRight (length run.reports) q r p ↔ SharedHistories s (met s run)
shared_judged s run q r p f queue h =
    let one = queue_judged s run q f queue in
    let two = report_judged s run r h.report in
    let three = pipe_judged s run p h.pipe h.ends in
    ((λ a. record { queue = one.0 a.queue; report = two.0 a.report; pipe = three.0 a.pipe }), (λ a. record { queue = one.1 a.queue; report = two.1 a.report; pipe = three.1 a.pipe }))

-- what is kept beside the queue follows the run after the meeting
pub beside_met : (s : Session) (run : Run) (q : QueueKept) (r : ReportKept) (p : PipeKept) → AreRight (length run.reports) q r p → BesideQueue s run r p → BesideQueue s (met s run) (record { met = length run.reports; loaded = None }) (with_meeting p)
unfolding met
beside_met s run q r p a h = record { report = report_met_so s run r h.report a.report; pipe = pipe_met_so s run p h.pipe; ends = ends_met p h.ends; pushed = h.pushed }

pub queue_met_so : (s : Session) (run : Run) (q : QueueKept) (r : ReportKept) (p : PipeKept) → Follow (state_at (cycle_frames s) run.states) → AreRight (length run.reports) q r p → QueueOf s run q → QueueGoes s (met s run) (met_kept q)
queue_met_so s run q r p f a h = queue_met s run q f h a.queue

-- the end of the round
pub beside_ended : (s : Session) (run : Run) (r : ReportKept) (p : PipeKept) → BesideQueue s run r p → BesideQueue s (with_ends run) r p
unfolding with_ends
beside_ended s run r p h = record { report = report_ended s run r h.report; pipe = pipe_ended s run p h.pipe; ends = h.ends; pushed = by_case run.normal.ended }
  where
    by_case : (ended : Bool) → (if ended then each_track (λ track t. record t { client = ends t.client }) run else run).normal.pushed ≡ length (if ended then each_track (λ track t. record t { client = ends t.client }) run else run).states
    by_case true = h.pushed
    by_case false = h.pushed
