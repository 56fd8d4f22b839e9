use Rattle.std.proofs.Common.{◌≡◌, length, All}
use Rattle.af_normal.specs.AllMixed.{HasFrames}
use Rattle.af_normal.proofs.make.spare_takes.Given as goal

abbrev pub invariant-loop-made : goal.invariant-loop-made
invariant-loop-made l = record {
  room : l.takes.room ≡ l.count;
  made : length l.takes.items ≡ l._made;
  rooms : All (HasFrames l.asked) l.takes.items;
}
