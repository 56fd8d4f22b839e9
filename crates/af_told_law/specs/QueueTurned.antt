-- What a turn of the normal mixer does at its end of the queue, and what the run keeps of it.
use Rattle.std.specs.Prelude.{◌≡◌, ◌⊎◌, ℕ, ◌-◌, ◌<◌, ◌==◌, ◌||◌, false, [], length}
use Rattle.af_normal.specs.State.{NormalState}
use Rattle.af_runs.specs.Runs.{Run}
use Rattle.af_runs.specs.Told.{ReportTold, report_met, state_at, was_seen}

-- The mutator knows its last state acknowledged exactly if its list has a look that saw it so, or none was pushed; no look saw a later one; and once one was pushed it keeps the state before the last one
pub record QueueKnown (frames : ℕ) (run : Run) (m : NormalState) : Type 0 where
  pub clear : m.mutator.past.clear ≡ ((length run.states == 0) || was_seen (length run.states) run.queue)
  pub beyond : (k : ℕ) → length run.states < k → was_seen k run.queue ≡ false
  pub before : 0 < length run.states → m.mutator.past.before ≡ state_at frames run.states (length run.states - 1)

-- the last thing that happened to the report was a meeting of its ends, or nothing happened yet
abbrev pub ReportMet : Run → Type 0
ReportMet run = (run.report ≡ []) ⊎ ((told : ReportTold) × (run.report ≡ report_met told))
