use Rattle.std.proofs.Common.{◌≡◌, take, length}
use Rattle.af_journal.proofs.turn_reading.looks_of.Given as goal

abbrev pub invariant-loop-look : goal.invariant-loop-look
invariant-loop-look l = record {
  looks : l.list.items ≡ take l.look-index l.looks;
  room : l.list.room ≡ length l.looks;
}
