-- What the fast mixer reports after an entry.
use Rattle.std.specs.Prelude.{◌≡◌, ℕ, ◌+◌, ◌<◌, ◌==◌, not, Bool, true, false, if◌then◌else◌, List, length, replicate, Option, Some, None, slice_index_or}
use Rattle.af_base.specs.declared.log.CycleEntry.{CycleEntry}
use Rattle.af_base.specs.declared.report.Report.{Report}
use Rattle.af_base.specs.declared.report.SlotReport.{SlotReport}
use Rattle.af_base.specs.declared.seen.Seen.{Seen}
use Rattle.af_base.specs.declared.seen.Seen.TheVariants as seen
use Rattle.af_base.specs.declared.state.FastState.{FastState}
use Rattle.af_base.specs.Log.{slots, entry_slot}
use Rattle.af_model.specs.Cycles.{state_of, last_used}
use Rattle.af_model.specs.StateQueue.{slot_of, carries}

-- what is known of a server: how many frames it consumed, the flush count that it saw last, and whether it is shut
pub record ServerKnown : Type 0 where
  pub consumed : ℕ
  pub flush_seen : ℕ
  pub shut : Bool

-- what is known of a slot that never had an item, or counted for one that is new
abbrev pub no_slot : SlotReport
no_slot = record { consumed = 0; shut = false; generation = 0; flush_seen = 0; fulls = 0; partials = 0; empties = 0 }

-- 1 for yes and 0 for no
abbrev pub one_if : Bool → ℕ
one_if b = if b then 1 else 0

-- a look that showed all that was asked for
abbrev pub is_full : ℕ → Seen → Bool
is_full asked (seen.Frames count) = count == asked
is_full asked _ = false

-- a look that showed some frames, but not all that were asked for
abbrev pub is_partial : ℕ → Seen → Bool
is_partial asked (seen.Frames count) = not (count == asked)
is_partial asked _ = false

-- a look that showed no frames
abbrev pub is_empty : Seen → Bool
is_empty seen.Empty = true
is_empty _ = false

-- a report goes on with one more look at a server of which this is known
abbrev pub counted_look : ℕ → ℕ → Seen → ServerKnown → SlotReport → SlotReport
counted_look asked generation answer known r = record {
  consumed = known.consumed;
  shut = known.shut;
  generation = generation;
  flush_seen = known.flush_seen;
  fulls = r.fulls + one_if (is_full asked answer);
  partials = r.partials + one_if (is_partial asked answer);
  empties = r.empties + one_if (is_empty answer);
}

-- there is a state, and it carries an item for the slot
abbrev pub carried : Option FastState → ℕ → Bool
carried None i = false
carried (Some x) i = carries x i

-- the slot i of the report after an entry under the state x, after one under the state y: the counts of an item that is new in x start at 0, and a slot that has no item keeps what it reported last
abbrev pub slot_report : ℕ → Option FastState → Option FastState → CycleEntry → ServerKnown → ℕ → SlotReport → SlotReport
slot_report asked None y entry known i r = r
slot_report asked (Some x) y entry known i r =
    if carries x i then counted_look asked (slot_of x i).generation (entry_slot entry i).seen known (if carried y i then r else no_slot)
    else r

-- the report before any cycle
abbrev pub no_report : Report
no_report = record { cycle = 0; slots = replicate slots no_slot }

abbrev pub report_at : List SlotReport → ℕ → SlotReport
report_at reports i = slice_index_or reports i no_slot

-- The report after an entry that follows a log, with what is known of the servers after it. Its number is that of the entries
pub record IsNextReport (asked : ℕ) (states : List FastState) (entries : List CycleEntry) (entry : CycleEntry) (known : ℕ → ServerKnown) (before : List SlotReport) (report : Report) : Type 0 where
  pub number : report.cycle ≡ length entries + 1
  pub whole : length report.slots ≡ slots
  pub each : (i : ℕ) → i < slots → report_at report.slots i ≡ slot_report asked (state_of states entry.state) (state_of states (last_used entries)) entry (known i) i (report_at before i)
