-- What is kept of the fast mixer of a run, and what an entry finds.
use Rattle.std.specs.Prelude.{◌≡◌, ℕ, ◌<◌, true, List, ◌++◌, length}
use Rattle.af_base.specs.declared.report.Report.{Report}
use Rattle.af_base.specs.declared.state.FastState.{FastState}
use Rattle.af_base.specs.Log.{slots}
use Rattle.af_model.specs.Cycles.{cold_done, has_exit, last_used}
use Rattle.af_model.specs.Order.{twos}
use Rattle.af_model.specs.StateQueue.{carries, slot_of}
use Rattle.af_runs.specs.Runs.{Run, last_report}
use Rattle.af_runs.specs.Sessions.{Session, cycle_frames}
use Rattle.af_judge.specs.FastKept.{FastKept}

-- no state has one track in two slots
abbrev pub CarriesApart : FastState → Type 0
CarriesApart x = (i j : ℕ) → i < slots → j < slots → carries x i ≡ true → carries x j ≡ true → (slot_of x i).track ≡ (slot_of x j).track → i ≡ j

-- each track that a state carries is one of so many
abbrev pub CarriesWithin : ℕ → FastState → Type 0
CarriesWithin tracks x = (i : ℕ) → i < slots → carries x i ≡ true → (slot_of x i).track < tracks

-- the reports are numbered by the entries
pub record AreNumbered (run : Run) : Type 0 where
  pub many : length run.reports ≡ length run.entries
  pub cycle : (last_report run.reports).cycle ≡ length run.entries

-- What is kept of the fast mixer of a run in a round before which these reports were stored: the frames of a cycle, the state adopted last and that of the last entry, the reports, the cold generation, the end, and its end of the pipe
pub record FastOf (s : Session) (earlier : List Report) (run : Run) (f : FastKept) : Type 0 where
  pub asked : f.told.asked ≡ cycle_frames s
  pub current : f.told.current ≡ run.current
  pub used : f.told.used ≡ last_used run.entries
  pub report : f.told.report ≡ last_report run.reports
  pub numbered : AreNumbered run
  pub before : f.before ≡ last_report earlier
  pub first : (last_report earlier).cycle ≡ length earlier
  pub reports : run.reports ≡ earlier ++ f.reports
  pub cold : f.cold ≡ cold_done run.states run.entries
  pub ended : f.ended ≡ has_exit run.entries
  pub takes : f.pipe.takes ≡ twos run.pipe.told
  pub taken : f.pipe.taken ≡ run.pipe.taken
