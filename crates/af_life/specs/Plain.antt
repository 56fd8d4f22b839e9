-- A mixer as a plain value: what it was made of, what it keeps, and how many turns it made.
use Rattle.std.specs.Prelude.{ℕ, List, slice_index_or}
use Rattle.af_base.specs.declared.report.Report.{Report}
use Rattle.af_life.specs.declared.kept.Heard.{Heard}
use Rattle.af_life.specs.Kept.{Setup, NormalKept, Learnt, nothing_heard}

pub record Plain : Type 0 where
  pub setup : Setup
  pub kept : NormalKept
  pub turns : ℕ

-- what a turn learns by a report and by what the stream proxies know, in order of tracks
abbrev pub learnt_of : Report → List Heard → Learnt
learnt_of report own = record { report = report; own = λ i. slice_index_or own i nothing_heard }
