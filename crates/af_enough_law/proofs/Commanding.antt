-- A turn of the normal mixer takes all commands that it knew of.
use Rattle.std.proofs.Common.{◌≡◌, ◌⊎◌, inl, inr, ℕ, zero, suc, ◌≤◌, ◌<◌, refl, ap, arith}

pub le_cases : (a b : ℕ) → a ≤ b → (b ≡ a) ⊎ (a < b)
le_cases zero zero h = inl refl
le_cases zero (suc b) h = inr (omega arith)
le_cases (suc a) zero h = absurd (omega arith)
le_cases (suc a) (suc b) h = elim (le_cases a b (omega arith)) as (λ _. (suc b ≡ suc a) ⊎ (suc a < suc b)) [ inl e ↦ inl (ap suc e) | inr lt ↦ inr (omega arith) ]
