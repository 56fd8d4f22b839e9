use Rattle.std.proofs.Common.{map, take}
use Rattle.af_gain.proofs.Common.{take_of}
use Rattle.af_gain.specs.Eight.{AreEightOf}
use Rattle.af_gain.proofs.narrow.eight_sums.Given as goal

abbrev pub invariant-loop-i : goal.invariant-loop-i
invariant-loop-i l = AreEightOf (map take_of (take l.i l.parts)) l.at l.sums
