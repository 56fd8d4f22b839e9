-- The cells of the pipe are the least power of two that is not below its frames.
use Rattle.std.proofs.Common.{◌≡◌, ℕ, zero, suc, ◌*◌, ◌/◌, ◌^◌, ◌≤◌, ◌<◌, max, Bool, true, false, nat_le, if◌then◌else◌, refl, sym, ap, ◌∙◌, arith, inl, inr}
use Rattle.af_audit.proofs.Common.{IsScript, ScriptData, cases_lt, le-power, leb-false, leb-true, mul-le-mul, pow-succ', power_above}
use Rattle.std.specs.Int.{IsPowerOfTwo}

-- if a power of two is enough and its half isn't, it is the least one
power_next : (k j n : ℕ) → n ≤ 2 ^ j → 2 ^ j / 2 < max 1 n → j ≤ k → 2 ^ j ≡ power_above k n
power_next zero j n above half low = let first : j ≡ 0 = omega (arith, low) in ap (λ i. 2 ^ i) first
power_next (suc k) j n above half low = by_case (λ within. power_next k j n above half within) (nat_le n (2 ^ k)) refl
  where
    by_case : (j ≤ k → 2 ^ j ≡ power_above k n) → (fits : Bool) → nat_le n (2 ^ k) ≡ fits → 2 ^ j ≡ (if fits then power_above k n else 2 ^ suc k)
    by_case below true e = elim (cases_lt k j) [
      | inl over ↦
          (let few = leb-true n (2 ^ k) e in
          let tall = le-power (suc k) j (omega (arith, over)) in
          let twice : 2 ^ suc k ≡ 2 * 2 ^ k = pow-succ' 2 k in
          let some = le-power 0 k (omega arith) in
          absurd (omega (arith, few, tall, twice, some, half)))
      | inr within ↦ below within
    ]
    by_case below false e = elim (cases_lt k j) [
      | inl over ↦ (let top : j ≡ suc k = omega (arith, over, low) in ap (λ i. 2 ^ i) top)
      | inr within ↦ (let many = leb-false n (2 ^ k) e in let bound = le-power j k within in absurd (omega (arith, many, bound, above)))
    ]

pub cells_next : (n p : ℕ) → IsPowerOfTwo p → n ≤ p → p / 2 < max 1 n → n ≤ 65536 → p ≡ power_above 16 n
cells_next n p (j, power) above half few =
    let above_j : n ≤ 2 ^ j = rw (sym power) above in
    let half_j : 2 ^ j / 2 < max 1 n = rw (sym power) half in
    power ∙ power_next 16 j n above_j half_j (low half_j)
  where
    low : 2 ^ j / 2 < max 1 n → j ≤ 16
    low half_j = elim (cases_lt 16 j) [
      | inl over ↦ (let bound = le-power 17 j (omega (arith, over)) in absurd (omega (arith, bound, half_j, few)))
      | inr within ↦ within
    ]

-- the pipe of a script has few enough frames
pub few_frames : (script : ScriptData) (multiple frames : ℕ) → multiple ≡ script.normal → frames ≡ script.frames → IsScript script → 4 * (multiple * frames) ≤ 65536
few_frames script multiple frames is_multiple is_frames form =
    let most_multiple = form.normal.1 in
    let most_frames = form.frames.1 in
    let m : multiple ≤ 16 = omega (arith, is_multiple, most_multiple) in
    let f : frames ≤ 1024 = omega (arith, is_frames, most_frames) in
    let product : multiple * frames ≤ 16 * 1024 = mul-le-mul m f in
    omega (arith, product)
