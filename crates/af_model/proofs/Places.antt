-- The places of all slots after a move, slot by slot.
use Rattle.std.proofs.Common.{◌≡◌, ◌≢◌, ℕ, zero, suc, ◌+◌, ◌<◌, ◌≤◌, slice_set, List, [], ◌∷◌, length, refl, ap, sym, ◌∙◌, subst, arith}
use Rattle.af_model.proofs.Common.{ext_get_or, get_or-set_other, get_or-set_same}
use mathlib.Core.Logic.{dite}
use native.Mathlib.Decide.{ℕ_discrete}
use Rattle.af_model.specs.declared.plain_calls.Place.{Place}
use Rattle.af_model.specs.declared.plain_calls.Place.TheVariants.{Nowhere}
use Rattle.af_model.specs.declared.plain_calls.Move.{Move}
use Rattle.af_model.specs.PlainQueue.{place_at, moved, moved_from}

module _ {P : Type 0} where
  pub length-moved_from : (m : Move) (i : ℕ) (places : List (Place P)) → length (moved_from m i places) ≡ length places
  length-moved_from m i [] = refl
  length-moved_from m i (place ∷ places) = let e = length-moved_from m (i + 1) places in omega arith

  moved_at : (m : Move) (i j : ℕ) (places : List (Place P)) → j < length places → place_at (moved_from m i places) j ≡ moved m (i + j) (place_at places j)
  moved_at m i j [] lt = absurd (omega arith)
  moved_at m i zero (place ∷ places) lt = let e : i ≡ i + 0 = omega arith in ap (λ k. moved m k place) e
  moved_at m i (suc j) (place ∷ places) lt = let e : (i + 1) + j ≡ i + suc j = omega arith in
      moved_at m (i + 1) j places (omega arith) ∙ ap (λ k. moved m k (place_at places j)) e

  -- the place of each slot after a move
  pub place_at-moved_from : (m : Move) (i : ℕ) (places : List (Place P)) → i < length places → place_at (moved_from m 0 places) i ≡ moved m i (place_at places i)
  place_at-moved_from m i places lt = let e : 0 + i ≡ i = omega arith in moved_at m 0 i places lt ∙ ap (λ k. moved m k (place_at places i)) e

  -- the places where each slot has moved
  pub all_moved : (m : Move) (places after : List (Place P)) → length after ≡ length places → ((i : ℕ) → i < length places → place_at after i ≡ moved m i (place_at places i)) → after ≡ moved_from m 0 places
  all_moved m places after same each = ext_get_or Nowhere after (moved_from m 0 places) (same ∙ sym (length-moved_from m 0 places))
      (λ i lt. let here : i < length places = omega arith in each i here ∙ sym (place_at-moved_from m i places here))

  -- one slot more has moved
  pub one_more : (m : Move) (i : ℕ) (first now after : List (Place P)) → i < length now → after ≡ slice_set now i (moved m i (place_at now i))
      → ((k : ℕ) → k < i → place_at now k ≡ moved m k (place_at first k)) → ((k : ℕ) → i ≤ k → place_at now k ≡ place_at first k)
      → ((k : ℕ) → k < i + 1 → place_at after k ≡ moved m k (place_at first k)) × ((k : ℕ) → i + 1 ≤ k → place_at after k ≡ place_at first k)
  one_more m i first now after lt is below above = let x = moved m i (place_at now i) in
      let other : (k : ℕ) → k ≢ i → place_at after k ≡ place_at now k = λ k ne. ap (λ (l : List (Place P)). place_at l k) is ∙ get_or-set_other now i k x Nowhere ne in
      let here : place_at after i ≡ moved m i (place_at first i) =
      ap (λ (l : List (Place P)). place_at l i) is ∙ get_or-set_same now i x Nowhere lt ∙ ap (moved m i) (above i (omega arith)) in (
        (λ k lk. dite (ℕ_discrete k i) (λ e. subst (λ (j : ℕ). place_at after j ≡ moved m j (place_at first j)) (sym e) here) (λ ne. other k ne ∙ below k (omega arith))),
        (λ k le. other k (λ e. omega arith) ∙ above k (omega arith)),
      )
