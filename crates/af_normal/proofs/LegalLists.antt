-- Lists and functions of numbers, changed at one place or at the end.
use Rattle.std.proofs.Common.{◌≡◌, ◌≢◌, ℕ, suc, ◌+◌, ◌==◌, Bool, if◌then◌else◌, refl, ap, ◌∙◌, List, [], ◌∷◌, ◌++◌, eq-eqb, ne_eqb, arith}
use Rattle.af_normal.proofs.Common.{AllByRecursion, filter-append, range_end, range_with_len}
use Rattle.std.specs.List.{filter}

-- the function with another value at one place
abbrev pub upd : {X : Type 0} → (ℕ → X) → ℕ → X → ℕ → X
upd f i x j = if j == i then x else f j

pub upd_same : {X : Type 0} (f : ℕ → X) (i : ℕ) (x : X) → upd f i x i ≡ x
upd_same f i x = ap (λ (b : Bool). if b then x else f i) (eq-eqb i i refl)

pub upd_other : {X : Type 0} (f : ℕ → X) (i : ℕ) (x : X) (j : ℕ) → j ≢ i → upd f i x j ≡ f j
upd_other f i x j ne = ap (λ (b : Bool). if b then x else f j) (ne_eqb j i ne)

-- the numbers that pass a test, with one number more
pub filter_end : (p : ℕ → Bool) (n : ℕ) → filter p (range_with_len 0 (suc n)) ≡ filter p (range_with_len 0 n) ++ (if p n then n ∷ [] else [])
filter_end p n = ap (filter p) (range_end 0 n ∙ ap (λ (k : ℕ). range_with_len 0 n ++ k ∷ []) (omega arith)) ∙ filter-append p (range_with_len 0 n) (n ∷ [])

pub all_end : {X : Type 0} (P : X → Type 0) (xs : List X) (x : X) → AllByRecursion P xs → P x → AllByRecursion P (xs ++ x ∷ [])
all_end P [] x all p = (p, tt)
all_end P (y ∷ xs) x all p = (all.0, all_end P xs x all.1 p)

pub all_map : {X : Type 0} (P Q R : X → Type 0) (xs : List X) → ((x : X) → P x → Q x → R x) → AllByRecursion P xs → AllByRecursion Q xs → AllByRecursion R xs
all_map P Q R [] f p q = tt
all_map P Q R (x ∷ xs) f p q = (f x p.0 q.0, all_map P Q R xs f p.1 q.1)
