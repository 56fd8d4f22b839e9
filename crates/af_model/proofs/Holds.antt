-- How a held part fares when views change.
use Rattle.std.proofs.Common.{◌≡◌, ◌≢◌, ℕ, zero, suc, Bool, true, false, true≢false, List, [], ◌∷◌, ◌++◌, length, set, sym, refl, ap, ◌∙◌, ◌⊎◌, inl, inr, ⊎_elim, arith}
use mathlib.Core.Option.{some, some-injective, some-ne-none}
use lib.ListN.{get_elem?}
use Rattle.af_model.specs.Held.{Held}

module _ {A : Type 0} where
  pub at_set : (l : List A) (i j : ℕ) (a b : A) → get_elem? (set l i a) j ≡ some b → ((j ≡ i) × (a ≡ b)) ⊎ ((j ≢ i) × (get_elem? l j ≡ some b))
  at_set [] i j a b e = absurd (some-ne-none b (sym e))
  at_set (x ∷ xs) zero zero a b e = inl (refl, some-injective a b e)
  at_set (x ∷ xs) zero (suc j) a b e = inr ((λ h. omega arith), e)
  at_set (x ∷ xs) (suc i) zero a b e = inr ((λ h. omega arith), e)
  at_set (x ∷ xs) (suc i) (suc j) a b e = ⊎_elim (λ t. inl (ap suc t.0, t.1)) (λ t. let n = t.0 in inr ((λ h. n (omega arith)), t.1)) (at_set xs i j a b e)

  pub at_snoc : (l : List A) (a b : A) (j : ℕ) → get_elem? (l ++ a ∷ []) j ≡ some b → (get_elem? l j ≡ some b) ⊎ (a ≡ b)
  at_snoc [] a b zero e = inr (some-injective a b e)
  at_snoc [] a b (suc j) e = absurd (some-ne-none b (sym e))
  at_snoc (x ∷ xs) a b zero e = inl e
  at_snoc (x ∷ xs) a b (suc j) e = at_snoc xs a b j e

pub at_end : {V : Type 0} (l : List V) (a b : V) (j : ℕ) → get_elem? l j ≢ some b → get_elem? (l ++ a ∷ []) j ≡ some b → j ≡ length l
at_end [] a b zero n e = refl
at_end [] a b (suc j) n e = absurd (some-ne-none b (sym e))
at_end (x ∷ xs) a b zero n e = absurd (n e)
at_end (x ∷ xs) a b (suc j) n e = ap suc (at_end xs a b j n e)

module _ {V X : Type 0} (has : V → Bool) (part : V → X) where
  -- the holder's part changes
  pub mine : (views : List V) (at id : ℕ) (x y : X) (v w : V) → Held has part views at x → get_elem? views id ≡ some v → has v ≡ true → part w ≡ y → Held has part (set views id w) id y
  mine views at id x y v w h here own is j u e hu = ⊎_elim (λ (t : (j ≡ id) × (w ≡ u)). (t.0, ap part (sym t.1) ∙ is))
      (λ (t : (j ≢ id) × (get_elem? views j ≡ some u)). absurd (t.0 ((h j u t.1 hu).0 ∙ sym (h id v here own).0))) (at_set views id j w u e)

  -- a seat's view changes, and the part does not
  pub same : (views : List V) (at id : ℕ) (x : X) (v w : V) → Held has part views at x → get_elem? views id ≡ some v → has w ≡ has v → part w ≡ part v → Held has part (set views id w) at x
  same views at id x v w h here own is j u e hu = ⊎_elim (λ (t : (j ≡ id) × (w ≡ u)). let k = h id v here (sym own ∙ ap has t.1 ∙ hu) in (t.0 ∙ k.0, ap part (sym t.1) ∙ is ∙ k.1))
      (λ (t : (j ≢ id) × (get_elem? views j ≡ some u)). h j u t.1 hu) (at_set views id j w u e)

  -- a seat gives the part up
  pub none : (views : List V) (at id : ℕ) (x : X) (w : V) → Held has part views at x → has w ≡ false → Held has part (set views id w) at x
  none views at id x w h lacks j u e hu = ⊎_elim (λ (t : (j ≡ id) × (w ≡ u)). absurd (true≢false (sym hu ∙ ap has (sym t.1) ∙ lacks)))
      (λ (t : (j ≢ id) × (get_elem? views j ≡ some u)). h j u t.1 hu) (at_set views id j w u e)

  -- a new seat comes without the part
  pub joined_none : (views : List V) (at : ℕ) (x : X) (w : V) → Held has part views at x → has w ≡ false → Held has part (views ++ w ∷ []) at x
  joined_none views at x w h lacks j u e hu = ⊎_elim (λ t. h j u t hu) (λ (t : w ≡ u). absurd (true≢false (sym hu ∙ ap has (sym t) ∙ lacks))) (at_snoc views w u j e)

  -- the holder's part goes to a new seat
  pub moved : (views : List V) (at id : ℕ) (x : X) (v left right : V) → Held has part views at x → get_elem? views id ≡ some v → has v ≡ true → has left ≡ false → part right ≡ part v
      → Held has part (set views id left ++ right ∷ []) (length (set views id left)) x
  moved views at id x v left right h here own lacks is j u e hu = let vs = set views id left in
      let gone : (k : ℕ) → get_elem? vs k ≢ some u = λ k f. ⊎_elim (λ (t : (k ≡ id) × (left ≡ u)). true≢false (sym hu ∙ ap has (sym t.1) ∙ lacks))
      (λ (t : (k ≢ id) × (get_elem? views k ≡ some u)). t.0 ((h k u t.1 hu).0 ∙ sym (h id v here own).0)) (at_set views id k left u f) in
      (at_end vs right u j (gone j) e, ⊎_elim (λ t. absurd (gone j t)) (λ (t : right ≡ u). ap part (sym t) ∙ is ∙ (h id v here own).1) (at_snoc vs right u j e))

  -- a seat takes the part over from the seat `other`, which is spent
  pub taken : (views : List V) (at id other : ℕ) (x : X) (w both spent : V) → Held has part views at x → other ≢ id → get_elem? (set views id both) other ≡ some w → has w ≡ true → part both ≡ part w → has spent ≡ false
      → Held has part (set (set views id both) other spent) id x
  taken views at id other x w both spent h apart there own is lacks j u e hu =
      let was : get_elem? views other ≡ some w = ⊎_elim (λ (t : (other ≡ id) × (both ≡ w)). absurd (apart t.0)) (λ t. t.1) (at_set views id other both w there) in
      let k = h other w was own in
      ⊎_elim (λ (t : (j ≡ other) × (spent ≡ u)). absurd (true≢false (sym hu ∙ ap has (sym t.1) ∙ lacks)))
      (λ (t : (j ≢ other) × (get_elem? (set views id both) j ≡ some u)). ⊎_elim (λ (r : (j ≡ id) × (both ≡ u)). (r.0, ap part (sym r.1) ∙ is ∙ k.1))
      (λ (r : (j ≢ id) × (get_elem? views j ≡ some u)). absurd (t.0 ((h j u r.1 hu).0 ∙ sym k.0))) (at_set views id j both u t.1))
      (at_set (set views id both) other j spent u e)
