use Rattle.std.proofs.Common.{◌≡◌, map, take}
use Rattle.af_gain.specs.Sums.{mixed_of}
use Rattle.af_gain.proofs.finishing.finish.Given as goal

abbrev pub invariant-loop-i : goal.invariant-loop-i
invariant-loop-i l = take l.i l.out ≡ map mixed_of (take l.i l.sums)
