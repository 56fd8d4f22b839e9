use Rattle.std.proofs.Common.{◌≡◌}
use Rattle.af_judge.proofs.Common.{mono_marks}
use Rattle.af_judge.proofs.entry_judge.mono_marks.Given as goal

abbrev pub invariant-loop-slot : goal.invariant-loop-slot
invariant-loop-slot l = l.marks ≡ mono_marks l.state l.slot
