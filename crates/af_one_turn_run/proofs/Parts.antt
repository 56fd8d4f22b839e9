-- Lists and legal orders in parts.
use Rattle.std.proofs.Common.{◌≡◌, ℕ, zero, suc, ◌+◌, List, [], ◌∷◌, ◌++◌, take, drop, refl, ap, ◌∙◌, arith}
use Rattle.af_one_turn_run.proofs.Common.{Legal}
use Rattle.af_model.specs.Order.{point_after}

module _ {P E : Type 0} (legal : P → E → Type 0) (next : P → E → P) where
  pub legal_parts : (p : P) (xs ys : List E) → Legal legal next p (xs ++ ys) → Legal legal next p xs × Legal legal next (point_after legal next p xs) ys
  legal_parts p [] ys l = (tt, l)
  legal_parts p (x ∷ xs) ys l = let r = legal_parts (next p x) xs ys l.1 in ((l.0, r.0), r.1)

module _ {A : Type 0} where
  pub take-add : (m c : ℕ) (l : List A) → take (m + c) l ≡ take m l ++ take c (drop m l)
  take-add zero c l = ap (λ n. take n l) (let e : zero + c ≡ c = omega arith in e)
  take-add (suc m) c [] = ap (λ n. take n []) (let e : suc m + c ≡ suc (m + c) = omega arith in e) ∙ none c
    where
      none : (c : ℕ) → (let l : List A = [] in l ≡ take c l)
      none zero = refl
      none (suc c) = refl
  take-add (suc m) c (x ∷ l) = ap (λ n. take n (x ∷ l)) (let e : suc m + c ≡ suc (m + c) = omega arith in e) ∙ ap (λ (xs : List A). x ∷ xs) (take-add m c l)
