-- What the fast mixer reports, by what it told so far and by what is known of the servers.
use Rattle.std.specs.Prelude.{ℕ, ◌+◌, ◌<◌, ◌≤◌, ◌==◌, ◌||◌, nat_le, true, if◌then◌else◌, is_some, List, [], map, length, Some, unwrap_or, slice_index_or}
use Rattle.std.specs.List.{range_with_len}
use Rattle.af_base.specs.declared.log.CycleEntry.{CycleEntry}
use Rattle.af_base.specs.declared.report.Report.{Report}
use Rattle.af_base.specs.declared.report.SlotReport.{SlotReport}
use Rattle.af_base.specs.declared.state.FastState.{FastState}
use Rattle.af_base.specs.Log.{slots}
use Rattle.af_life.specs.declared.kept.Heard.{Heard}
use Rattle.af_life.specs.Heard.{known_by}
use Rattle.af_life.specs.Kept.{nothing_heard}
use Rattle.af_model.specs.Cycles.{state_of}
use Rattle.af_model.specs.Draft.{initial}
use Rattle.af_model.specs.Reports.{ServerKnown, no_report, report_at, slot_report}
use Rattle.af_model.specs.StateQueue.{slot_of}
use Rattle.af_runs.specs.Runs.{shows_slot}
use Rattle.af_runs.specs.Sessions.{command_shape}
use Rattle.af_runs.specs.Told.{state_at}
use Rattle.af_judge.specs.Blocks.{BlockJudged, listed_in}

-- what the fast mixer told: the frames of a cycle, the number of the state adopted last, that of the last entry, the normal mixer's draft, and the last report
pub record Telling : Type 0 where
  pub asked : ℕ
  pub current : ℕ
  pub used : ℕ
  pub draft : FastState
  pub report : Report

-- what the fast mixer has told before the first entry
abbrev pub telling_begins : ℕ → Telling
telling_begins asked = record { asked = asked; current = 0; used = 0; draft = initial asked; report = no_report }

-- so many looks were counted at most
pub record CountsUpTo (most : ℕ) (r : SlotReport) : Type 0 where
  pub fulls : r.fulls ≤ most
  pub partials : r.partials ≤ most
  pub empties : r.empties ≤ most

-- no slot counts more looks than there are entries
abbrev pub CountsEntries : Report → Type 0
CountsEntries r = (i : ℕ) → i < slots → CountsUpTo r.cycle (report_at r.slots i)

-- the state adopted last
abbrev pub adopted_in : Telling → List FastState → FastState
adopted_in t states = state_at t.asked states t.current

-- the state that a number without one counts as: number 0 as the one adopted last, and any other as the normal mixer's draft
abbrev pub unpushed_in : Telling → List FastState → ℕ → FastState
unpushed_in t states k = if k == 0 then adopted_in t states else t.draft

-- the state of a number
abbrev pub state_in : Telling → List FastState → ℕ → FastState
state_in t states k = unwrap_or (state_of states k) (unpushed_in t states k)

-- the fast mixer polls and finds the state of a number
abbrev pub polled_in : List FastState → ℕ → Telling → Telling
polled_in states k t = record t { current = if nat_le k (length states) then k else t.current }

-- what a report tells of a server of which this is heard
abbrev pub told_by : Heard → ServerKnown
told_by h = record { consumed = h.known.consumed; flush_seen = h.flush_seen; shut = h.known.shut }

-- what a report tells of the server of a slot
abbrev pub told_at_slot : List Heard → ℕ → ServerKnown
told_at_slot heard i = told_by (slice_index_or heard i nothing_heard)

-- a slot of the report after an entry under the state x, after one under the state y. Of a state that isn't pushed yet only what the entry shows is told
abbrev pub slot_added : ℕ → List FastState → FastState → FastState → CycleEntry → ServerKnown → ℕ → SlotReport → SlotReport
slot_added asked states x y entry known i before =
    if is_some (state_of states entry.state) || shows_slot x entry i
    then slot_report asked (Some x) (Some y) entry known i before
    else before

-- the report after an entry whose looks were made
abbrev pub report_added : List FastState → (ℕ → ServerKnown) → CycleEntry → Telling → Report
report_added states known entry t = record {
  cycle = t.report.cycle + 1;
  slots = map (λ i. slot_added t.asked states (state_in t states entry.state) (state_in t states t.used) entry (known i) i (report_at t.report.slots i)) (range_with_len 0 slots);
}

-- the entry is added
abbrev pub entry_added : List FastState → (ℕ → ServerKnown) → CycleEntry → Telling → Telling
entry_added states known entry t = record t { used = entry.state; report = report_added states known entry t }

-- ## The servers

-- the stream block of a track, and one that isn't there
abbrev pub no_block : BlockJudged
no_block = record { shape = command_shape; lawful = true; client = []; server = []; hand = []; released = []; taken = [] }

abbrev pub block_at : List BlockJudged → ℕ → BlockJudged
block_at blocks track = slice_index_or blocks track no_block

-- what is heard of the stream of a slot
abbrev pub heard_at : List BlockJudged → FastState → ℕ → Heard
heard_at blocks x i = known_by (listed_in (block_at blocks (slot_of x i).track))
