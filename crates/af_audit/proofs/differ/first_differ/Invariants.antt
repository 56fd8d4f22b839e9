-- the lists are the same so far
use Rattle.std.proofs.Common.{◌≡◌, take}
use Rattle.af_audit.proofs.differ.first_differ.Given as goal

abbrev pub invariant-loop-i : goal.invariant-loop-i
invariant-loop-i l = take l.i l.a ≡ take l.i l.b
