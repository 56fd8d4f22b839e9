-- A note is one release, since the number of cells is a multiple of eight.
use Rattle.std.proofs.Common.{◌≡◌, ℕ, zero, suc, ◌+◌, ◌-◌, ◌*◌, ◌/◌, ◌%◌, ◌^◌, ◌<◌, ◌≤◌, nat_le, Bool, true, if◌then◌else◌, [], ◌∷◌, ap, ◌∙◌, sym, subst, arith, mod-lt}
use Rattle.af_nblog.proofs.Common.{IsShape, Shape, releases_of}
use Rattle.std.proofs.lemmas.Nat.{mod-pow-add, pow-add, pow_pos}
use Rattle.af_base.specs.declared.event.ClientEvent.TheVariants as client

-- a power of two that isn't below eight is a multiple of it
three_more : (j : ℕ) → 8 ≤ 2 ^ j → (i : ℕ) × (j ≡ i + 3)
three_more zero le = absurd (omega arith)
three_more (suc zero) le = absurd (omega arith)
three_more (suc (suc zero)) le = absurd (omega arith)
three_more (suc (suc (suc i))) le = (i, omega arith)

-- eight places from a multiple of eight on lie before the end
fits_power : (n i : ℕ) → (8 * n) % 2 ^ (i + 3) + 8 ≤ 2 ^ (i + 3)
fits_power n i =
    let place = mod-pow-add (8 * n) i 3 in
    let size = pow-add 2 i 3 in
    let some : 0 < 2 ^ i = pow_pos i in
    let low : (8 * n) / 2 ^ 3 % 2 ^ i < 2 ^ i = mod-lt ((8 * n) / 2 ^ 3) some in
    omega arith

fits : (k : Shape) (sent room : ℕ) → IsShape k → k.frames ≡ 8 * room → 1 ≤ room → (8 * sent) % k.cells + 8 ≤ k.cells
fits k sent room shape size some =
    let power = shape.cells.0 in
    let frames : k.frames ≤ k.cells = shape.cells.1 in
    let enough : 8 ≤ 2 ^ power.0 = subst (λ (x : ℕ). 8 ≤ x) power.1 (let a : 8 ≤ k.cells = omega arith in a) in
    let more = three_more power.0 enough in
    let is : k.cells ≡ 2 ^ (more.0 + 3) = power.1 ∙ ap (λ (x : ℕ). 2 ^ x) more.1 in
    subst (λ (x : ℕ). (8 * sent) % x + 8 ≤ x) (sym is) (fits_power sent more.0)

within : (a : ℕ) → 8 ≤ a → nat_le 8 a ≡ true
within a le = search arith

pub one_release : (k : Shape) (sent room : ℕ) → IsShape k → k.frames ≡ 8 * room → 1 ≤ room → releases_of k.cells (8 * sent) 8 ≡ client.Release 8 ∷ []
one_release k sent room shape size some =
    let left : ℕ = k.cells - (8 * sent) % k.cells in
    let enough : 8 ≤ left = (let f = fits k sent room shape size some in omega arith) in
    ap (λ (b : Bool). if b then client.Release 8 ∷ [] else client.Release left ∷ client.Release (8 - left) ∷ []) (within left enough)
