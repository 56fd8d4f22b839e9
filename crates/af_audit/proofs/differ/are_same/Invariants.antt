use Rattle.std.proofs.Common.{◌≡◌, true, take}
use Rattle.af_audit.proofs.differ.are_same.Given as goal

abbrev pub invariant-loop-i : goal.invariant-loop-i
invariant-loop-i l = l.same ≡ true → take l.i l.a ≡ take l.i l.b
