use Rattle.std.proofs.Common.{◌≡◌, take}
use Rattle.af_journal.proofs.Common.{list_all}
use Rattle.af_journal.specs.Hexadecimal.{is_hex}
use Rattle.af_journal.proofs.hexadecimal.are_digits.Given as goal

abbrev pub invariant-loop-byte : goal.invariant-loop-byte
invariant-loop-byte l = l.all ≡ list_all is_hex (take l.byte-index l.bytes)
