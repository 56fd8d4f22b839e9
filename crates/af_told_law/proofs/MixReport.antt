-- The report that the fast mixer stores after an entry is the one that the run tells.
use Rattle.std.proofs.Common.{◌≡◌, ℕ, ◌+◌, ◌<◌, ◌==◌, ◌&&◌, ◌||◌, Bool, true, false, if◌then◌else◌, map, is_some, List, Option, Some, None, refl, sym, ap, ◌∙◌, arith}
use Rattle.af_told_law.proofs.Common.{CycleEntry, FastState, IsNextReport, Report, Run, ServerKnown, Session, SlotReport, carried, carries, counted_look, cycle_frames, entry_slot, ext_get_or, get_or-map-range_with_len, is_shown, known_of, last_report, last_used, length-map-range_with_len, listed, next_report, next_slot, no_slot, range_with_len, report_at, slot_of, slot_report, slots, state_at, state_for, state_of, stream_of, unwrap_or}

module _ (s : Session) (run : Run) (entry : CycleEntry) (before : List SlotReport) (i : ℕ) (known : ServerKnown) where
  -- what a number without a state counts as
  abbrev counts : ℕ → FastState
  counts k = if k == 0 then state_at (cycle_frames s) run.states run.current else run.normal.draft

  abbrev first : FastState
  first = counts entry.state

  abbrev second : FastState
  second = counts (last_used run.entries)

  abbrev was : SlotReport
  was = report_at before i

  -- what the run tells, by the states that the entry and the one before it used
  abbrev next_by : Option FastState → Option FastState → SlotReport
  next_by o p =
      if is_some o || (carries (unwrap_or o first) i && is_shown (entry_slot entry i).seen)
      then slot_report (cycle_frames s) (Some (unwrap_or o first)) (Some (unwrap_or p second)) entry (known_of (listed (stream_of run (unwrap_or o first) i))) i was
      else was

  either_none : (b : Bool) → was ≡ no_slot → (if b then was else no_slot) ≡ no_slot
  either_none true e = e
  either_none false e = refl

  since : (x : FastState) (p : Option FastState) → (p ≡ None → was ≡ no_slot) → (if carried (Some (unwrap_or p second)) i then was else no_slot) ≡ (if carried p i then was else no_slot)
  since x (Some y) fresh = refl
  since x None fresh = either_none (carries second i) (fresh refl)

  slot_by : (o p : Option FastState) → (o ≡ None → carries first i ≡ false) → (p ≡ None → was ≡ no_slot) → ((x : FastState) → o ≡ Some x → carries x i ≡ true → known ≡ known_of (listed (stream_of run x i)))
      → next_by o p ≡ slot_report (cycle_frames s) o p entry known i was
  slot_by None p none fresh knows =
      ap (λ (b : Bool). if b && is_shown (entry_slot entry i).seen then slot_report (cycle_frames s) (Some first) (Some (unwrap_or p second)) entry (known_of (listed (stream_of run first i))) i was else was) (none refl)
  slot_by (Some x) p none fresh knows = by_mask (carries x i) refl
    where
      look : ServerKnown → SlotReport → SlotReport
      look k r = counted_look (cycle_frames s) (slot_of x i).generation (entry_slot entry i).seen k r

      by_mask : (b : Bool) → carries x i ≡ b → (if b then look (known_of (listed (stream_of run x i))) (if carried (Some (unwrap_or p second)) i then was else no_slot) else was) ≡ (if b then look known (if carried p i then was else no_slot) else was)
      by_mask true on = λ j. look (sym (knows x refl on) j) (since x p fresh j)
      by_mask false off = refl

  -- a slot of the report is that of the run's next report
  pub slot_told : (state_of run.states entry.state ≡ None → carries (state_for s run entry.state) i ≡ false) → (state_of run.states (last_used run.entries) ≡ None → was ≡ no_slot)
      → ((x : FastState) → state_of run.states entry.state ≡ Some x → carries x i ≡ true → known ≡ known_of (listed (stream_of run x i)))
      → next_slot s run entry before i ≡ slot_report (cycle_frames s) (state_of run.states entry.state) (state_of run.states (last_used run.entries)) entry known i was
  slot_told none fresh knows = slot_by (state_of run.states entry.state) (state_of run.states (last_used run.entries)) (λ is. ap (λ (o : Option FastState). carries (unwrap_or o first) i) (sym is) ∙ none is) fresh knows

-- If the run, in which the looks of the entry were made, has the states, and tells what is known of the proxies, the report is the next one of the run. If no state was used before, each slot still has its first report
pub report_told : (s : Session) (run : Run) (entry : CycleEntry) (known : ℕ → ServerKnown) (report : Report)
    → IsNextReport (cycle_frames s) run.states run.entries entry known (last_report run.reports).slots report
    → ((i : ℕ) → i < slots → state_of run.states entry.state ≡ None → carries (state_for s run entry.state) i ≡ false)
    → ((i : ℕ) → i < slots → state_of run.states (last_used run.entries) ≡ None → report_at (last_report run.reports).slots i ≡ no_slot)
    → ((i : ℕ) → i < slots → (x : FastState) → state_of run.states entry.state ≡ Some x → carries x i ≡ true → known i ≡ known_of (listed (stream_of run x i)))
    → report ≡ next_report s run entry
report_told s run entry known report is none fresh knows =
    let slot : ℕ → SlotReport = next_slot s run entry (last_report run.reports).slots in
    let each : report.slots ≡ map slot (range_with_len 0 slots) =
    ext_get_or no_slot report.slots (map slot (range_with_len 0 slots)) (is.whole ∙ sym (length-map-range_with_len slot 0 slots)) (λ i low.
    let inside : i < slots = (let w = is.whole in omega (arith, low, w)) in
    is.each i inside
    ∙ sym (slot_told s run entry (last_report run.reports).slots i (known i) (none i inside) (fresh i inside) (knows i inside))
    ∙ sym (get_or-map-range_with_len slot 0 slots i i no_slot inside (let e : 0 + i ≡ i = omega arith in e))) in
    λ j. record { cycle = is.number j; slots = each j }
