use Rattle.std.proofs.Common.{◌≡◌, drop}
use Rattle.af_journal.proofs.WordNumbers.{spelled_on}
use Rattle.af_journal.proofs.digits.digits_of.Given as goal

abbrev pub invariant-loop-place : goal.invariant-loop-place
invariant-loop-place l = spelled_on l.value (drop l.place l.bytes) ≡ spelled_on l.first l.bytes
