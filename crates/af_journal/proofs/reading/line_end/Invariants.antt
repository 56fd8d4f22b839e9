use Rattle.std.proofs.Common.{◌≡◌, ℕ, ◌-◌, ◌<◌, ◌≤◌, length, get_or}
use Rattle.af_journal.proofs.reading.line_end.Given as goal

abbrev pub invariant-blocks-2 : goal.invariant-blocks-2
invariant-blocks-2 l = record {
  inside : l.at ≤ length l.bytes;
  before : (k : ℕ) → k < l.at → get_or l.bytes k 0 ≡ 10 → ⊥;
}

abbrev pub decreases-blocks-2 : goal.decreases-blocks-2
decreases-blocks-2 l = length l.bytes - l.at

abbrev pub invariant-bytes : goal.invariant-bytes
invariant-bytes l = record {
  inside : l.at ≤ length l.bytes;
  before : (k : ℕ) → k < l.at → get_or l.bytes k 0 ≡ 10 → ⊥;
}

abbrev pub decreases-bytes : goal.decreases-bytes
decreases-bytes l = length l.bytes - l.at
