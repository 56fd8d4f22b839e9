-- What is kept of the report, and which load is right.
use Rattle.std.specs.Prelude.{ℕ, ◌≤◌, MatchOption, Option}

-- the report: how many reports were stored at the last meeting of its ends, and the number that was loaded since then
pub record ReportKept : Type 0 where
  pub met : ℕ
  pub loaded : Option ℕ

-- if so many reports are stored, the load, if there was one, lies among those stored since the last meeting, or is the last one before it
abbrev pub IsLoadOf : ℕ → ReportKept → Type 0
IsLoadOf stored r = MatchOption r.loaded (Unit {0}) (λ number. (r.met ≤ number) × (number ≤ stored))
