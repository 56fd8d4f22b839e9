-- the slots before this one are those after the entry
use Rattle.std.proofs.Common.{◌+◌, map}
use Rattle.af_judge.proofs.Common.{report_at}
use Rattle.af_judge.specs.Reporting.{heard_at, slot_added, told_by}
use Rattle.af_judge.proofs.SlotsAdded.{AreAdded}
use Rattle.af_judge.proofs.slot_report.Reporter.add_played.Given as goal

abbrev pub invariant-loop-slot : goal.invariant-loop-slot
invariant-loop-slot l =
    AreAdded (λ i. slot_added l.self.asked l.states l.state l.last l.entry (told_by (heard_at (map (λ t. t.stream) l.tracks) l.played i)) i (report_at l.self.report.slots i))
    l.self.report.slots l.slots (l.self.report.cycle + 1) l.slot
