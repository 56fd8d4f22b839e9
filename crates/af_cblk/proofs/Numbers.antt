-- Positions, their words and their cells.
use Rattle.std.proofs.Common.{◌≡◌, ◌≢◌, ℕ, ◌+◌, ◌-◌, ◌*◌, ◌/◌, ◌%◌, ◌^◌, ◌<◌, ◌≤◌, sym, ap, ◌∙◌, arith, div-add-mod', mul_assoc, mod-lt, mod-eq_of_lt, lt_of_not-le}
use Rattle.af_cblk.proofs.Common.{add-mod_right, mod-add-mod, mul-add-mod_self_right, one_turn, wrapped}
use mathlib.Core.Logic.{dite}
use native.Mathlib.Decide.{dec_le}
use Rattle.af_cblk.specs.Parts.{ahead}

pub twice : (n x : ℕ) → n ≡ wrapped x → wrapped n ≡ wrapped x
twice n x e = omega arith

-- the word of a position names the position's cell
pub same_cell : (n m c : ℕ) → m * c ≡ 2 ^ 32 → wrapped n % c ≡ n % c
same_cell n m c e =
    let K : ℕ = 2 ^ 32 in
    let whole : n / K * K + n % K ≡ n = div-add-mod' n K in
    let parts : n / K * m * c ≡ n / K * K = mul_assoc (n / K) m c ∙ ap (λ (z : ℕ). n / K * z) e in
    sym (mul-add-mod_self_right (n / K * m) c (n % K)) ∙ ap (λ (z : ℕ). (z + n % K) % c) parts ∙ ap (λ (z : ℕ). z % c) whole

-- the word `to` is that of the position `ahead from to` past `from`
pub ahead_is : (from to : ℕ) → to < 2 ^ 32 → wrapped (from + ahead from to) ≡ to
ahead_is from to small = omega arith

pub ahead_of : (from n : ℕ) → n < 2 ^ 32 → ahead from (wrapped (from + n)) ≡ n
ahead_of from n small = omega arith

pub ahead_below : (from to : ℕ) → ahead from to < 2 ^ 32
ahead_below from to = omega arith

-- positions less than a turn apart lie in different cells
pub apart : (a b n : ℕ) → a < b → b < a + n → a % n ≢ b % n
apart a b n lt near e = let same : a ≡ b = one_turn a b n (omega arith) near e in omega arith

-- the number of the cell, counted from r's on
pub back : (r x c : ℕ) → x < c → ((r + x) % c + (c - r % c)) % c ≡ x
back r x c less =
    let low : r % c < c = mod-lt r (omega arith) in
    let d : ℕ = c - r % c in
    let gap : r % c + d ≡ c = omega arith in
    let whole : r / c * c + r % c ≡ r = div-add-mod' r c in
    let u : ℕ = r / c * c in
    let v : ℕ = r % c in
    let sum : (r + x) + d ≡ u + (x + c) = (let w : u + v ≡ r = whole in let g : v + d ≡ c = gap in omega arith) in
    mod-add-mod (r + x) c d ∙ ap (λ (z : ℕ). z % c) sum ∙ mul-add-mod_self_right (r / c) c (x + c) ∙ add-mod_right x c ∙ mod-eq_of_lt less

-- between two positions that are near, the words tell how far
pub between : (a b : ℕ) → a ≤ b → b ≤ a + 65536 → ahead (wrapped a) (wrapped b) ≡ b - a
between a b low high = omega arith

pub past : (a n : ℕ) → wrapped (wrapped a + n) ≡ wrapped (a + n)
past a n = omega arith

-- two positions inside one room that share a cell are one
pub one_place : (a b n low size : ℕ) → size ≤ n → low ≤ a → a < low + size → low ≤ b → b < low + size → a % n ≡ b % n → a ≡ b
one_place a b n low size fits la ha lb hb e =
    dite (dec_le a b)
    (λ (le : a ≤ b). one_turn a b n le (omega arith) e)
    (λ not. let lt : b < a = lt_of_not-le not in sym (one_turn b a n (omega arith) (omega arith) (sym e)))
