use Rattle.std.proofs.Common.{◌≡◌, ◌*◌, length, take}
use Rattle.af_journal.proofs.Common.{flat_map}
use Rattle.af_journal.specs.Lines.{hex_byte}
use Rattle.af_journal.proofs.packed.row_of.Given as goal

abbrev pub invariant-loop-i : goal.invariant-loop-i
invariant-loop-i l = record {
  long : length l.row ≡ 64;
  made : take (2 * l.i) l.row ≡ flat_map hex_byte (take l.i l.bytes);
}
