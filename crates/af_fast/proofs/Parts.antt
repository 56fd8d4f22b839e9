-- No slot of a mix is louder than unity.
use Rattle.std.proofs.Common.{ℕ, ◌<◌, ◌≤◌, ◌==◌, Bool, true, false, if◌then◌else◌, arith}
use Rattle.af_fast.proofs.Common.{FastState, IsState, carries, mix_scale, slot_of, slots}

by_tests : (b c : Bool) (n : ℕ) → n ≤ 4096 → (if b then 4096 else if c then n else 0) ≤ 4096
by_tests true c n few = omega arith
by_tests false true n few = few
by_tests false false n few = omega arith

pub scale_few : (x : FastState) (i : ℕ) → IsState x → i < slots → mix_scale x i ≤ 4096
scale_few x i state lt = by_tests (i == 0) (carries x i) (slot_of x i).scale (state.scaled i lt)
