-- The pipe of a new session has as many cells as the run tells.
use Rattle.std.proofs.Common.{◌≡◌, ℕ, zero, suc, ◌/◌, ◌^◌, ◌≤◌, ◌<◌, max, Bool, true, false, nat_le, if◌then◌else◌, List, refl, sym, ap, subst, ◌∙◌, arith, inl, inr}
use Rattle.af_told_law.proofs.Common.{ClientPart, Frame, IsNewSession, ScriptData, SessionState, SharedState, cases_lt, half, le-power, pipe_cells, session_of}
use Rattle.std.specs.Int.{IsNextPowerOfTwo}
use Rattle.std.proofs.lemmas.Bool.Decides.{nat_tests}
use Rattle.af_runs.specs.Sessions.{setup_of}
use Rattle.af_script.specs.Ops.{power_above}

-- ## The least power of two that is not below a number

mutual_step : (k j n : ℕ) (test : Bool) → nat_le n (2 ^ k) ≡ test → j ≤ suc k → n ≤ 2 ^ j → 2 ^ j / 2 < max 1 n → (j ≤ k → power_above k n ≡ 2 ^ j) → (if test then power_above k n else 2 ^ suc k) ≡ 2 ^ j
mutual_step k j n true is le above half_below below =
    elim (cases_lt k j) [
      | inl lt ↦
          let top : j ≡ suc k = omega arith in
          let small : n ≤ 2 ^ k = grind (arith, nat_tests) in
          let some : 1 ≤ 2 ^ k = le-power 0 k (omega arith) in
          let tall : 2 ^ k < max 1 n = rw (sym (half k)) (rw (sym top) half_below) in
          absurd (omega arith)
      | inr ge ↦ below (omega arith)
    ]
mutual_step k j n false is le above half_below below =
    elim (cases_lt k j) [
      | inl lt ↦ let top : suc k ≡ j = omega arith in ap (λ i. 2 ^ i) top
      | inr ge ↦
          let large : 2 ^ k < n = grind (arith, nat_tests) in
          let bound : 2 ^ j ≤ 2 ^ k = le-power j k (omega arith) in
          absurd (omega arith)
    ]

power_above-power : (k j n : ℕ) → j ≤ k → n ≤ 2 ^ j → 2 ^ j / 2 < max 1 n → power_above k n ≡ 2 ^ j
power_above-power zero j n le above half_below = let first : zero ≡ j = omega arith in ap (λ i. 2 ^ i) first
power_above-power (suc k) j n le above half_below =
    mutual_step k j n (nat_le n (2 ^ k)) refl le above half_below (λ le'. power_above-power k j n le' above half_below)

few_bits : (j n : ℕ) → 2 ^ j / 2 < max 1 n → n ≤ 65536 → j ≤ 16
few_bits j n half_below fits =
    elim (cases_lt 16 j) [
      | inl large ↦
          let bound : 2 ^ 17 ≤ 2 ^ j = le-power 17 j (omega arith) in
          absurd (omega arith)
      | inr le ↦ le
    ]

next_power : (n p : ℕ) → IsNextPowerOfTwo n p → n ≤ 65536 → p ≡ power_above 16 n
next_power n p ((j, power), above, half_below) fits =
    let above_j : n ≤ 2 ^ j = subst (λ (q : ℕ). n ≤ q) power above in
    let half_j : 2 ^ j / 2 < max 1 n = subst (λ (q : ℕ). q / 2 < max 1 n) power half_below in
    power ∙ sym (power_above-power 16 j n (few_bits j n half_j fits) above_j half_j)

-- ## The pipe

pub cells_new : (script : ScriptData) (files : List (List Frame)) (shared : SharedState) (x : SessionState) → IsNewSession script shared x → x.normal.pipe.pass.part.shape.cells ≡ pipe_cells (setup_of (session_of script files))
cells_new script files shared x new =
    ap (λ (c : ClientPart). c.shape.cells) new.ends.from.0
    ∙ next_power shared.pipe.shape.frames shared.pipe.shape.cells new.ends.shape.cells new.ends.shape.few
    ∙ ap (power_above 16) new.ends.pipe.0
