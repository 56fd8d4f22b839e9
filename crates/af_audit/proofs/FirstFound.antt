-- The first number of a range that passes a test.
use Rattle.std.proofs.Common.{◌≡◌, ℕ, zero, suc, ◌+◌, ◌<◌, ◌≤◌, Bool, true, false, if◌then◌else◌, is_some, Option, Some, None, refl, sym, ap, ◌∙◌, subst, arith}
use Rattle.af_audit.proofs.Common.{find, no, range_with_len, unwrap_or}

-- a number that is found passes, and lies in the range
pub record FoundAt (p : ℕ → Bool) (a n k : ℕ) : Type 0 where
  pub holds : p k ≡ true
  pub high : k < a + n

pub found_at : (p : ℕ → Bool) (a n k : ℕ) → find p (range_with_len a n) ≡ Some k → FoundAt p a n k
found_at p a zero k e = no (ap is_some e)
found_at p a (suc n) k e = by_first (p a) refl (found_at p (a + 1) n k) e
  where
    by_first : (b : Bool) → p a ≡ b → (find p (range_with_len (a + 1) n) ≡ Some k → FoundAt p (a + 1) n k) → (if b then Some a else find p (range_with_len (a + 1) n)) ≡ Some k → FoundAt p a (suc n) k
    by_first true is later f = let same : a ≡ k = ap (λ (o : Option ℕ). unwrap_or o a) f in record { holds = subst (λ (j : ℕ). p j ≡ true) same is; high = omega (arith, same) }
    by_first false is later f = let more = later f in let h = more.high in record { holds = more.holds; high = omega (arith, h) }

pub none_found : (p : ℕ → Bool) (a n k : ℕ) → find p (range_with_len a n) ≡ None → a ≤ k → k < a + n → p k ≡ true → ⊥
none_found p a zero k e low high holds = omega (arith, low, high)
none_found p a (suc n) k e low high holds = by_first (p a) refl e (none_found p (a + 1) n k)
  where
    by_first : (b : Bool) → p a ≡ b → (if b then Some a else find p (range_with_len (a + 1) n)) ≡ None → (find p (range_with_len (a + 1) n) ≡ None → a + 1 ≤ k → k < (a + 1) + n → p k ≡ true → ⊥) → ⊥
    by_first true is f later = no (sym (ap is_some f))
    by_first false is f later = let other : a ≡ k → ⊥ = λ same. no (sym is ∙ ap p same ∙ holds) in later f (omega (arith, low, other)) (omega (arith, high)) holds
