use Rattle.std.proofs.Common.{map, take, All}
use Rattle.af_gain.proofs.Common.{take_of}
use Rattle.af_gain.specs.Sums.{AreSumsOf, IsWithin}
use Rattle.af_gain.proofs.mixing.sum_up.Given as goal

abbrev pub invariant-loop-part : goal.invariant-loop-part
invariant-loop-part l = record {
  sums : AreSumsOf (map take_of (take l.part-index l.parts)) l.sums;
  bound : All (IsWithin l.part-index) l.sums;
}
