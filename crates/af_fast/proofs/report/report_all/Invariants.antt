use Rattle.std.proofs.Common.{◌≡◌, ℕ, ◌≤◌, ◌<◌, Some, length}
use Rattle.af_fast.proofs.Common.{bit_at, report_at, slot_report, slots}
use Rattle.af_fast.specs.Known.{known}
use Rattle.af_fast.proofs.report.report_all.Given as goal

abbrev pub invariant-loop-slot : goal.invariant-loop-slot
invariant-loop-slot l = record {
  same : l.observer ≡ l.fn.observer;
  some : 0 < l.fn.observer.past.number;
  current_is : l.fn.observer.current ≡ Some l.fn.observer.past.state;
  few : l.used ≤ slots;
  rest : (i : ℕ) → l.used ≤ i → bit_at l.fn.observer.past.state.mask i ≡ 0;
  whole : length l.reports ≡ slots;
  each : (i : ℕ) → i < l.slot → report_at l.reports i ≡ slot_report l.asked (Some l.fn.observer.past.state) l.last l.entry (known l.fn.observer i) i (report_at l.fn.reports i);
  behind : (i : ℕ) → l.slot ≤ i → report_at l.reports i ≡ report_at l.fn.reports i;
}
