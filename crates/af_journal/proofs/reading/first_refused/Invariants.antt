use Rattle.std.proofs.Common.{◌≡◌, ◌+◌, ◌≤◌, length}
use Rattle.af_journal.specs.Readings.{first_refused, parts_of}
use Rattle.af_journal.proofs.reading.first_refused.Given as goal

abbrev pub invariant-lines : goal.invariant-lines
invariant-lines l = record {
  same : first_refused l.tracks l.stage l.number (parts_of l.rest) ≡ first_refused l.tracks l.fn.first 1 (parts_of l.bytes);
  short : l.number + length l.rest ≤ length l.bytes + 1;
}

abbrev pub decreases-lines : goal.decreases-lines
decreases-lines l = length l.rest
