-- Lists that belong together item by item.
use Rattle.std.proofs.Common.{ℕ, zero, suc, ◌<◌, List, [], ◌∷◌, ◌++◌, length, slice_set, slice_index_or, arith}
use Rattle.std.specs.List.{AllZip}

module _ {A B : Type 0} (R : A → B → Type 0) where
  -- at each place the two items belong together
  pub zip_at : (xs : List A) (ys : List B) (i : ℕ) (x : A) (y : B) → AllZip R xs ys → i < length xs → R (slice_index_or xs i x) (slice_index_or ys i y)
  zip_at [] ys i x y z lt = absurd (omega arith)
  zip_at (a ∷ xs) [] i x y z lt = elim z [ ]
  zip_at (a ∷ xs) (b ∷ ys) zero x y z lt = z.0
  zip_at (a ∷ xs) (b ∷ ys) (suc i) x y z lt = zip_at xs ys i x y z.1 (omega arith)

  -- one item may be exchanged for another that belongs there
  pub zip_set : (xs : List A) (ys : List B) (i : ℕ) (x : A) (y : B) → AllZip R xs ys → R (slice_index_or xs i x) y → AllZip R xs (slice_set ys i y)
  zip_set [] [] i x y z r = tt
  zip_set [] (b ∷ ys) i x y z r = elim z [ ]
  zip_set (a ∷ xs) [] i x y z r = elim z [ ]
  zip_set (a ∷ xs) (b ∷ ys) zero x y z r = (r, z.1)
  zip_set (a ∷ xs) (b ∷ ys) (suc i) x y z r = (z.0, zip_set xs ys i x y z.1 r)

  -- two items that belong together may be put behind
  pub zip_push : (xs : List A) (ys : List B) (x : A) (y : B) → AllZip R xs ys → R x y → AllZip R (xs ++ x ∷ []) (ys ++ y ∷ [])
  zip_push [] [] x y z r = (r, tt)
  zip_push [] (b ∷ ys) x y z r = elim z [ ]
  zip_push (a ∷ xs) [] x y z r = elim z [ ]
  zip_push (a ∷ xs) (b ∷ ys) x y z r = (z.0, zip_push xs ys x y z.1 r)
