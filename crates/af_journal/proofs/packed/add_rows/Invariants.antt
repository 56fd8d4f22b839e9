use Rattle.std.proofs.Common.{◌≡◌, ◌*◌, ◌++◌, map, take}
use Rattle.af_journal.proofs.Common.{flat_map, packed_word}
use Rattle.af_journal.specs.Lines.{hex_word}
use Rattle.af_journal.proofs.packed.add_rows.Given as goal

abbrev pub invariant-loop-row : goal.invariant-loop-row
invariant-loop-row l = l.text.bytes.items ≡ l.fn.text.bytes.items ++ flat_map hex_word (map packed_word (take (8 * l.row) l.frames))
