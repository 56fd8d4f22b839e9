-- What a load of the report shows while reports are stored at the same time.
use Rattle.std.specs.Prelude.{◌≡◌, ◌⊎◌, ℕ, ◌+◌, ◌≤◌, ◌++◌, List, [], ◌∷◌, length}
use Rattle.af_base.specs.declared.report.Report.{Report}
use Rattle.af_latest.specs.Laws.{stores}
use Rattle.af_model.specs.declared.newest.ReaderEvent.{ReaderEvent}
use Rattle.af_model.specs.declared.newest.ReaderEvent.TheVariants as reads
use Rattle.af_model.specs.declared.newest.WriterEvent.{WriterEvent}
use Rattle.af_model.specs.declared.newest.WriterEvent.TheVariants as writes
use Rattle.af_model.specs.NewestValue.{HasValueHistory}
use Rattle.af_model.specs.Reports.{no_report}
use Rattle.af_runs.specs.Runs.{report_of}
use Rattle.af_told_law.specs.Tells.{reports_stored}

-- the two ends of the report met last, and each learnt of all that the other had done
pub record MetLast (ws : List (WriterEvent Report)) (rs : List (ReaderEvent Report)) : Type 0 where
  pub wrote : List (WriterEvent Report)
  pub read : List (ReaderEvent Report)
  pub writer : ws ≡ wrote ++ writes.Learn (length read) ∷ []
  pub reader : rs ≡ read ++ reads.Learn (length wrote) ∷ []

-- The number k of a load, and the report that it showed: it is the k-th of those stored in the end, and none that was stored before the last meeting is missing
pub record LoadsOneOf (known k : ℕ) (reports : List Report) (x : Report) : Type 0 where
  pub known_all : known ≤ k
  pub stored : k ≤ length reports
  pub is : x ≡ report_of reports k

-- The first load since a meeting shows the report of its number among all that are stored in the end. This report is no older than the last one stored before the meeting
abbrev pub LoadsShowTheirNumber : Type 0
LoadsShowTheirNumber = (ws more : List (WriterEvent Report)) (rs behind : List (ReaderEvent Report)) (k : ℕ) (x : Report)
    → ((ws ≡ []) × (rs ≡ [])) ⊎ MetLast ws rs → HasValueHistory no_report (ws ++ more) (rs ++ reads.Load k x ∷ behind)
    → LoadsOneOf (stores ws) k (reports_stored (ws ++ more)) x

-- each report has its number, counted from n on
abbrev pub CountUp : ℕ → List Report → Type 0
CountUp n [] = Unit {0}
CountUp n (r ∷ reports) = (r.cycle ≡ n + 1) × CountUp (n + 1) reports
