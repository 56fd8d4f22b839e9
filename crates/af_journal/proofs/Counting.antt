-- One word more is counted.
use Rattle.std.proofs.Common.{◌≡◌, ℕ, ◌+◌, ◌-◌, ◌≤◌, List, [], ◌∷◌, length, take, drop, ◌∙◌, arith}
use Rattle.af_journal.proofs.Common.{length-drop, take_all}
use Rattle.af_journal.specs.LineReading.{◌>>=◌}

-- what follows eight digits
pub tail_is : (xs : List ℕ) → take (length xs - 8) (drop 8 xs) ≡ drop 8 xs
tail_is xs = take_all (length xs - 8) (drop 8 xs) (let n = length-drop 8 xs in omega arith)
