use Rattle.std.proofs.Common.{◌≡◌, length}
use Rattle.af_normal.specs.Ready.{HaveRoom}
use Rattle.af_normal.proofs.make.spare_turns.Given as goal

abbrev pub invariant-loop-made : goal.invariant-loop-made
invariant-loop-made l = record {
  room : l.turns.room ≡ l.count;
  made : length l.turns.items ≡ l._made;
  rooms : HaveRoom l.turns.items;
}
