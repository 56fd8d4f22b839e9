-- The state of a number is the one at the place before it.
use Rattle.std.proofs.Common.{◌≡◌, ◌⊎◌, inl, inr, ℕ, zero, suc, ◌-◌, ◌<◌, ◌≤◌, List, [], ◌∷◌, length, get_or, Some, None, refl, sym, ap, ◌∙◌, arith}
use Rattle.af_judge.proofs.Common.{FastState, state_of}

at_next : (xs : List FastState) (j : ℕ) (d : FastState) → j < length xs → Some (get_or xs j d) ≡ state_of xs (suc j)
at_next [] j d h = absurd (omega arith)
at_next (x ∷ xs) zero d h = refl
at_next (x ∷ xs) (suc j) d h = at_next xs j d (omega arith)

past_end : (xs : List FastState) (j : ℕ) → length xs ≤ j → None ≡ state_of xs (suc j)
past_end [] j h = refl
past_end (x ∷ xs) zero h = absurd (omega arith)
past_end (x ∷ xs) (suc j) h = past_end xs j (omega arith)

-- a number from 1 up to the last one
pub state_inside : (xs : List FastState) (k : ℕ) (d : FastState) → 1 ≤ k → k ≤ length xs → Some (get_or xs (k - 1) d) ≡ state_of xs k
state_inside xs k d low high = let next : suc (k - 1) ≡ k = omega arith in at_next xs (k - 1) d (omega arith) ∙ ap (state_of xs) next

-- any other
pub state_outside : (xs : List FastState) (k : ℕ) → (k ≡ 0) ⊎ (length xs < k) → None ≡ state_of xs k
state_outside xs k (inl e) = ap (state_of xs) (sym e)
state_outside xs k (inr h) = let next : suc (k - 1) ≡ k = omega arith in past_end xs (k - 1) (omega arith) ∙ ap (state_of xs) next
