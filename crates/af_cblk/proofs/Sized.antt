-- What the sizes of a block come to.
use Rattle.std.proofs.Common.{◌≡◌, ◌≢◌, ◌⊎◌, inl, inr, ℕ, ◌+◌, ◌%◌, bit_and, ◌-◌, ◌*◌, ◌/◌, ◌^◌, ◌<◌, ◌≤◌, max, sym, ap, ◌∙◌, subst, arith, pow-add, pow_mono, lt_of_not-le}
use Rattle.af_cblk.proofs.Common.{Shape, and_mask}
use mathlib.Core.Logic.{dite}
use native.Mathlib.Decide.{dec_le}
use Rattle.af_cblk.specs.Shape.{IsShape}

-- the cells hold the frames, and whole turns of them fill the positions of 32 bits
abbrev pub IsSized : Shape → Type 0
IsSized k = (1 ≤ k.frames) × (k.frames ≤ k.cells) × (k.cells ≤ 65536) × ((m : ℕ) × (m * k.cells ≡ 2 ^ 32))

max_one : (n : ℕ) → 1 ≤ n → max 1 n ≡ n
max_one n h = omega arith

pub sized : (k : Shape) → IsShape k → IsSized k
sized k shape =
    let j : ℕ = shape.cells.0.0 in
    let is : k.cells ≡ 2 ^ j = shape.cells.0.1 in
    let one = shape.some in
    let few = shape.few in
    let half : k.cells / 2 < 65536 = (let e : max 1 k.frames ≡ k.frames = max_one k.frames one in let a : k.cells / 2 < k.frames = subst (λ (z : ℕ). k.cells / 2 < z) e shape.cells.2 in omega arith) in
    let low : k.cells < 131072 = omega arith in
    let small : j ≤ 16 = dite (dec_le 17 j)
    (λ (big : 17 ≤ j). let m : 2 ^ 17 ≤ 2 ^ j = pow_mono big in absurd (omega arith))
    (λ not. let a = lt_of_not-le not in omega arith) in
    let pair : 2 ^ (32 - j) * 2 ^ j ≡ 2 ^ 32 = sym (pow-add 2 (32 - j) j) ∙ ap (λ (z : ℕ). 2 ^ z) (let e : 32 - j + j ≡ 32 = omega arith in e) in
    let most : k.cells ≤ 65536 = (let m : 2 ^ j ≤ 2 ^ 16 = pow_mono small in omega arith) in
    (one, shape.cells.1, most, (2 ^ (32 - j), ap (λ (z : ℕ). 2 ^ (32 - j) * z) is ∙ pair))

-- a wrap is more than two rooms, and whole wraps fill the positions of 32 bits
abbrev pub IsWrapped : Shape → Type 0
IsWrapped k = (0 < k.wrap) × (k.wrap ≤ 65536) × (k.frames + k.frames < k.wrap) × ((m : ℕ) × (m * k.wrap ≡ 2 ^ 32))

pub wrapped_by : (k : Shape) → IsShape k → k.wrap ≢ 0 → IsWrapped k
wrapped_by k shape placed = by shape.wrap
  where
    by : (k.wrap ≡ 0) ⊎ ((k.wrap ≡ k.cells * 4) × (k.frames ≤ 8192)) → IsWrapped k
    by (inl flat) = absurd (placed flat)
    by (inr is) =
        let j : ℕ = shape.cells.0.0 in
        let cells : k.cells ≡ 2 ^ j = shape.cells.0.1 in
        let one = shape.some in
        let fits = shape.cells.1 in
        let wide : k.wrap ≡ k.cells * 4 = is.0 in
        let few : k.frames ≤ 8192 = is.1 in
        let half : k.cells / 2 < 8192 = (let e : max 1 k.frames ≡ k.frames = max_one k.frames one in let a : k.cells / 2 < k.frames = subst (λ (z : ℕ). k.cells / 2 < z) e shape.cells.2 in omega arith) in
        let small : j ≤ 13 = dite (dec_le 14 j)
        (λ (big : 14 ≤ j). let m : 2 ^ 14 ≤ 2 ^ j = pow_mono big in absurd (omega arith))
        (λ not. let a = lt_of_not-le not in omega arith) in
        let wrap : k.wrap ≡ 2 ^ (j + 2) = wide ∙ ap (λ (z : ℕ). z * 4) cells ∙ sym (pow-add 2 j 2) in
        let pair : 2 ^ (30 - j) * 2 ^ (j + 2) ≡ 2 ^ 32 = sym (pow-add 2 (30 - j) (j + 2)) ∙ ap (λ (z : ℕ). 2 ^ z) (let e : 30 - j + (j + 2) ≡ 32 = omega arith in e) in
        let most : k.cells ≤ 16384 = omega arith in
        (omega arith, omega arith, omega arith, (2 ^ (30 - j), ap (λ (z : ℕ). 2 ^ (30 - j) * z) wrap ∙ pair))

-- the low bits of a position name its cell
pub mask_is : (k : Shape) → IsShape k → (position : ℕ) → bit_and position (k.cells - 1) ≡ position % k.cells
mask_is k shape position =
    let j : ℕ = shape.cells.0.0 in
    let is : k.cells ≡ 2 ^ j = shape.cells.0.1 in
    ap (λ (z : ℕ). bit_and position (z - 1)) is ∙ and_mask position j ∙ ap (λ (z : ℕ). position % z) (sym is)
