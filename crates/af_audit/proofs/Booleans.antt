-- What other proofs use again and again of Booleans and tests.
use Rattle.std.proofs.Common.{◌≡◌, ℕ, ◌+◌, ◌==◌, arith, false}
use Rattle.af_audit.proofs.Common.{nat_tests}

pub one_more : (n : ℕ) → (n + 1 == n) ≡ false
one_more n = grind (arith, nat_tests)
