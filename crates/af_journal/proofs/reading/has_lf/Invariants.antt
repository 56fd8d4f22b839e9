use Rattle.std.proofs.Common.{◌≡◌, ◌==◌, take}
use Rattle.af_journal.proofs.Common.{list_any}
use Rattle.af_journal.proofs.reading.has_lf.Given as goal

abbrev pub invariant-loop-byte : goal.invariant-loop-byte
invariant-loop-byte l = l.found ≡ list_any (λ b. b == 10) (take l.byte-index l.bytes)
