-- The least power of two that is not below a number.
use Rattle.std.proofs.Common.{◌≡◌, ℕ, zero, suc, ◌/◌, ◌^◌, ◌≤◌, ◌<◌, max, Bool, true, false, nat_le, if◌then◌else◌, refl, sym, ap, ◌∙◌, arith, inl, inr}
use Rattle.af_script.proofs.Common.{IsPowerOfTwo, cases_lt, half, le-power, nat_tests}
use Rattle.af_script.specs.Ops.{power_above, cells_of}

mutual_step : (k j n : ℕ) (test : Bool) → nat_le n (2 ^ k) ≡ test → j ≤ suc k → n ≤ 2 ^ j → 2 ^ j / 2 < max 1 n → (j ≤ k → power_above k n ≡ 2 ^ j) → (if test then power_above k n else 2 ^ suc k) ≡ 2 ^ j
mutual_step k j n true is le above half_below below =
    elim (cases_lt k j) [
      | inl lt ↦
          let top : j ≡ suc k = omega arith in
          let small : n ≤ 2 ^ k = grind (arith, nat_tests) in
          let some : 1 ≤ 2 ^ k = le-power 0 k (omega arith) in
          let tall : 2 ^ k < max 1 n = rw (sym (half k)) (rw (sym top) half_below) in
          absurd (omega arith)
      | inr ge ↦ below (omega arith)
    ]
mutual_step k j n false is le above half_below below =
    elim (cases_lt k j) [
      | inl lt ↦ let top : suc k ≡ j = omega arith in ap (λ i. 2 ^ i) top
      | inr ge ↦
          let large : 2 ^ k < n = grind (arith, nat_tests) in
          let bound : 2 ^ j ≤ 2 ^ k = le-power j k (omega arith) in
          absurd (omega arith)
    ]

power_above-power : (k j n : ℕ) → j ≤ k → n ≤ 2 ^ j → 2 ^ j / 2 < max 1 n → power_above k n ≡ 2 ^ j
power_above-power zero j n le above half_below = let first : zero ≡ j = omega arith in ap (λ i. 2 ^ i) first
power_above-power (suc k) j n le above half_below =
    mutual_step k j n (nat_le n (2 ^ k)) refl le above half_below (λ le'. power_above-power k j n le' above half_below)

small : (j n : ℕ) → 2 ^ j / 2 < max 1 n → n ≤ 8192 → j ≤ 13
small j n half_below fits =
    elim (cases_lt 13 j) [
      | inl large ↦
          let bound : 2 ^ 14 ≤ 2 ^ j = le-power 14 j (omega arith) in
          absurd (omega arith)
      | inr le ↦ le
    ]

pub cells_of-next : (n p : ℕ) → IsPowerOfTwo p → n ≤ p → p / 2 < max 1 n → n ≤ 8192 → p ≡ cells_of n
unfolding cells_of
cells_of-next n p (j, power) above half_below fits =
    let above_j : n ≤ 2 ^ j = rw (sym power) above in
    let half_j : 2 ^ j / 2 < max 1 n = rw (sym power) half_below in
    power ∙ sym (power_above-power 13 j n (small j n half_j fits) above_j half_j)

pub next-bound : (n p : ℕ) → IsPowerOfTwo p → p / 2 < max 1 n → n ≤ 8192 → p ≤ 8192
next-bound n p (j, power) half_below fits =
    let half_j : 2 ^ j / 2 < max 1 n = rw (sym power) half_below in
    let bound : 2 ^ j ≤ 2 ^ 13 = le-power j 13 (small j n half_j fits) in
    omega arith
