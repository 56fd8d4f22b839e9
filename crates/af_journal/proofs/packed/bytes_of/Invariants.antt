use Rattle.std.proofs.Common.{◌≡◌, ◌*◌, length, map, take}
use Rattle.af_journal.proofs.Common.{flat_map, packed_word, to_be_bytes, w32}
use Rattle.af_journal.proofs.packed.bytes_of.Given as goal

abbrev pub invariant-loop-i : goal.invariant-loop-i
invariant-loop-i l = record {
  long : length l.bytes ≡ 32;
  made : take (4 * l.i) l.bytes ≡ flat_map (to_be_bytes w32) (map packed_word (take l.i l.frames));
}
