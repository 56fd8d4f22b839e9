-- The first line of a text, by the place of its LF.
use Rattle.std.proofs.Common.{◌≡◌, ℕ, zero, suc, ◌+◌, ◌-◌, ◌<◌, ◌≤◌, ◌==◌, List, [], ◌∷◌, Option, Some, None, Bool, true, false, cond, length, take, drop, get_or, ◌⊎◌, inl, inr, refl, ap, ◌∙◌, sym, arith}
use Rattle.af_journal.proofs.Common.{cases_lt, equal_is, list_any, list_any_at, slice_range}
use Rattle.std.proofs.lemmas.Simd.{get_or-chunk, length-chunk}
use Rattle.af_journal.specs.LineReading.{◌>>=◌}
use Rattle.af_journal.specs.Readings.{cut}

-- another byte
other_by : (x : ℕ) (b : Bool) → (x == 10) ≡ b → (x ≡ 10 → ⊥) → (x == 10) ≡ false
other_by x true e h = absurd (h (equal_is x 10 e))
other_by x false e h = e

other : (x : ℕ) → (x ≡ 10 → ⊥) → (x == 10) ≡ false
other x h = other_by x (x == 10) refl h

-- a line that ends at a place
pub cut_at : (xs : List ℕ) (p : ℕ) → p < length xs → ((k : ℕ) → k < p → get_or xs k 0 ≡ 10 → ⊥) → get_or xs p 0 ≡ 10 → cut xs ≡ Some (take p xs, drop (p + 1) xs)
cut_at [] p lt before here = absurd (omega arith)
cut_at (x ∷ xs) zero lt before here = ap (λ t. cond t (Some ([], xs)) (cut xs >>= λ r. Some (x ∷ r.0, r.1))) (ap (λ c. c == 10) here)
cut_at (x ∷ xs) (suc p) lt before here =
    let not : (x == 10) ≡ false = other x (before 0 (omega arith)) in
    let rest : cut xs ≡ Some (take p xs, drop (p + 1) xs) = cut_at xs p (omega arith) (λ k h. before (suc k) (omega arith)) here in
    let next : suc (p + 1) ≡ suc p + 1 = omega arith in
    ap (λ t. cond t (Some ([], xs)) (cut xs >>= λ r. Some (x ∷ r.0, r.1))) not
    ∙ ap (λ (o : Option (List ℕ × List ℕ)). o >>= λ r. Some (x ∷ r.0, r.1)) rest
    ∙ ap (λ n. Some (x ∷ take p xs, drop n (x ∷ xs))) next

-- no line that ends
pub cut_none : (xs : List ℕ) → ((k : ℕ) → k < length xs → get_or xs k 0 ≡ 10 → ⊥) → cut xs ≡ None
cut_none [] before = refl
cut_none (x ∷ xs) before =
    let not : (x == 10) ≡ false = other x (before 0 (omega arith)) in
    ap (λ t. cond t (Some ([], xs)) (cut xs >>= λ r. Some (x ∷ r.0, r.1))) not
    ∙ ap (λ (o : Option (List ℕ × List ℕ)). o >>= λ r. Some (x ∷ r.0, r.1)) (cut_none xs (λ k h. before (suc k) (omega arith)))

-- no byte of a block is an LF
none_in : (xs : List ℕ) (a b k : ℕ) → b ≡ a + 16 → b ≤ length xs → list_any (λ c. c == 10) (slice_range xs a b) ≡ false → a ≤ k → k < b → get_or xs k 0 ≡ 10 → ⊥
none_in xs a b k is le none low high here =
    let span : b - a ≡ 16 = omega arith in
    let place : a + (k - a) ≡ k = omega arith in
    let at : get_or (slice_range xs a b) (k - a) 0 ≡ get_or xs k 0 = get_or-chunk a (b - a) xs (k - a) 0 (omega arith) ∙ ap (λ n. get_or xs n 0) place in
    let long : length (slice_range xs a b) ≡ b - a = length-chunk a (b - a) xs (omega arith) in
    let some : list_any (λ c. c == 10) (slice_range xs a b) ≡ true = list_any_at (λ c. c == 10) (slice_range xs a b) (k - a) 0 (omega arith) (ap (λ c. c == 10) (at ∙ here)) in
    cc (sym none ∙ some)

either : (xs : List ℕ) (a k : ℕ) → a + 16 ≤ length xs → ((k : ℕ) → k < a → get_or xs k 0 ≡ 10 → ⊥) → list_any (λ c. c == 10) (slice_range xs a (a + 16)) ≡ false
    → k < a + 16 → (k < a) ⊎ (a ≤ k) → get_or xs k 0 ≡ 10 → ⊥
either xs a k le before none high (inl lt) = before k lt
either xs a k le before none high (inr low) = none_in xs a (a + 16) k refl le none low high

-- a block more without an LF
pub block_more : (xs : List ℕ) (a : ℕ) → a + 16 ≤ length xs → ((k : ℕ) → k < a → get_or xs k 0 ≡ 10 → ⊥) → list_any (λ c. c == 10) (slice_range xs a (a + 16)) ≡ false
    → (k : ℕ) → k < a + 16 → get_or xs k 0 ≡ 10 → ⊥
block_more xs a le before none k high = either xs a k le before none high (cases_lt k a)
