use Rattle.std.proofs.Common.{◌≡◌, ◌↔◌, IsTrue, length, map, take}
use Rattle.af_judge.proofs.Common.{AllByRecursion, take_seen}
use Rattle.af_judge.specs.NormalTold.{AreTaken, IsRightTake}
use Rattle.af_judge.proofs.normal_tells.all_taken.Given as goal

abbrev pub invariant-loop-take : goal.invariant-loop-take
invariant-loop-take l = record {
  many : length l.tracks ≡ length l.initial.tracks;
  told : AreTaken l.asked (map take_seen (take l.take-index l.takes)) l.initial.tracks l.tracks;
  right : IsTrue l.right ↔ AllByRecursion (IsRightTake l.asked l.initial.tracks) (map take_seen (take l.take-index l.takes));
}
