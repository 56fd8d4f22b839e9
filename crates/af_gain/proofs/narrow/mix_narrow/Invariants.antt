use Rattle.std.proofs.Common.{◌*◌, map}
use Rattle.af_gain.proofs.Common.{take_of}
use Rattle.af_gain.specs.Narrow.{AreMixedTo}
use Rattle.af_gain.proofs.narrow.mix_narrow.Given as goal

abbrev pub invariant-loop-sixteen : goal.invariant-loop-sixteen
invariant-loop-sixteen l = AreMixedTo (16 * l.sixteen) (map take_of l.parts) l.out
