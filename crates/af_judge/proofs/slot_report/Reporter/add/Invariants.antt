-- the slots before this one are those after the entry
use Rattle.std.proofs.Common.{◌≡◌, ℕ, ◌+◌, ◌<◌, length}
use Rattle.af_judge.proofs.Common.{report_at, slots}
use Rattle.af_judge.specs.Reporting.{CountsUpTo, slot_added, told_at_slot}
use Rattle.af_judge.proofs.slot_report.Reporter.add.Given as goal

abbrev pub invariant-loop-slot : goal.invariant-loop-slot
invariant-loop-slot l = record {
  long : length l.slots ≡ slots;
  each : (i : ℕ) → i < l.slot → report_at l.slots i ≡ slot_added l.self.asked l.states l.state l.last l.entry (told_at_slot l.heard i) i (report_at l.self.report.slots i);
  few : (i : ℕ) → i < l.slot → CountsUpTo (l.self.report.cycle + 1) (report_at l.slots i);
}
