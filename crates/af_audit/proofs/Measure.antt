-- A number that the list of a server gives, and that its reports and its mixer hear of: such as how much was consumed, or how many flushes were seen.
use Rattle.std.proofs.Common.{◌≡◌, ℕ, ◌≤◌, List, ◌++◌}
use Rattle.af_audit.proofs.Common.{FastState, Heard, Listed, Report, Run, Seen, ServerEvent, Shape, SlotReport, TrackKept, counted_look, heard_at_home, heard_with, known_by, known_of, listed, no_slot, nothing_heard, report_at, slot_of, told_at, track_at}
use Rattle.af_life.specs.declared.kept.Counts.{Counts}

-- the number by a list, by a slot of a report, and as a mixer hears it: a list only raises it, and neither a report nor a proxy gives more of it than its list
pub record Measure : Type 0 where
  pub of_list : Shape → List ServerEvent → ℕ
  pub of_report : SlotReport → ℕ
  pub of_heard : Heard → ℕ
  pub grows : (k : Shape) (es more : List ServerEvent) → of_list k es ≤ of_list k (es ++ more)
  pub none : of_report no_slot ≡ 0
  pub nothing : of_heard nothing_heard ≡ 0
  pub reported : (asked generation : ℕ) (answer : Seen) (s : Listed) (before : SlotReport) → of_report (counted_look asked generation answer (known_of s) before) ≤ of_list s.shape s.events
  pub own : (s : Listed) → of_heard (known_by s) ≤ of_list s.shape s.events
  pub home : (h : Heard) (t : TrackKept) → of_heard (heard_at_home h t) ≡ of_heard h
  pub away : (r : SlotReport) (looks : Counts) → of_heard (heard_with r.consumed r.flush_seen r.shut looks) ≡ of_report r

-- the number by a server's list
abbrev pub of_server : Measure → Listed → ℕ
of_server measure s = measure.of_list s.shape s.events

-- the number by the list of the server of a track's stream block in a run
abbrev pub of_run : Measure → Run → ℕ → ℕ
of_run measure run track = of_server measure (listed (told_at run track).stream)

-- no slot of the report has a later generation than the state, and if one has the same, it gives no more than so much of its track
pub record IsBounded (measure : Measure) (draft : FastState) (told : ℕ → ℕ) (report : Report) : Type 0 where
  pub low : (i : ℕ) → (report_at report.slots i).generation ≤ (slot_of draft i).generation
  pub within : (i : ℕ) → (report_at report.slots i).generation ≡ (slot_of draft i).generation → measure.of_report (report_at report.slots i) ≤ told (slot_of draft i).track

-- what each track's proxy gave when it was attached is no more than so much
abbrev pub AreAttached : Measure → (ℕ → ℕ) → List TrackKept → Type 0
AreAttached measure told tracks = (i : ℕ) → measure.of_heard (track_at tracks i).at_attach ≤ told i
