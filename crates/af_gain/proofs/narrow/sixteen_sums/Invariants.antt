use Rattle.std.proofs.Common.{map, take}
use Rattle.af_gain.proofs.Common.{take_of}
use Rattle.af_gain.specs.Eight.{AreSixteenOf}
use Rattle.af_gain.proofs.narrow.sixteen_sums.Given as goal

abbrev pub invariant-loop-i : goal.invariant-loop-i
invariant-loop-i l = AreSixteenOf (map take_of (take l.i l.parts)) l.at l.sums
