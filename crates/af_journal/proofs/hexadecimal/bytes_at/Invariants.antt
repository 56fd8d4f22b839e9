use Rattle.std.proofs.Common.{◌≡◌, ℕ, ◌+◌, ◌*◌, ◌<◌, ◌∷◌, [], length, get_or}
use Rattle.af_journal.specs.Lines.{hex_byte}
use Rattle.af_journal.proofs.hexadecimal.bytes_at.Given as goal

abbrev pub invariant-loop-i : goal.invariant-loop-i
invariant-loop-i g l = record {
  long : length l.bytes ≡ g.row.COUNT;
  made : (k : ℕ) → k < l.i → hex_byte (get_or l.bytes k 0) ≡ get_or l.digits (l.at + 2 * k) 0 ∷ get_or l.digits (l.at + 2 * k + 1) 0 ∷ [];
}
