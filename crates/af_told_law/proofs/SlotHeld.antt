-- The observer holds a track's proxy, as the run tells it, if a slot of its state carries it.
use Rattle.std.proofs.Common.{◌≡◌, ◌⊎◌, inl, inr, ℕ, zero, suc, ◌+◌, ◌<◌, ◌==◌, ◌||◌, Bool, true, false, true≢false, if◌then◌else◌, is_some, [], ◌∷◌, Option, Some, None, refl, sym, ap, ◌∙◌, arith}
use Rattle.af_told_law.proofs.Common.{FastState, and_from, and_parts, carries, cases_eq, eq-eqb, eqb-true, is_slot_of, list_any, list_any-append, none-some, or_else, range_end, range_with_len, same_Some, slot_below, slot_for, slot_of, slots}

either : (o : Option ℕ) (k : ℕ) (b : Bool) → (is_some o || (b || false)) ≡ is_some (or_else o (if b then Some k else None))
either None k true = refl
either None k false = refl
either (Some j) k b = refl

module _ (x : FastState) (track : ℕ) where
  below : (n : ℕ) → list_any (is_slot_of x track) (range_with_len 0 n) ≡ is_some (slot_below x track n)
  below zero = refl
  below (suc n) =
      ap (list_any (is_slot_of x track)) (range_end 0 n)
      ∙ list_any-append (is_slot_of x track) (range_with_len 0 n) ((0 + n) ∷ [])
      ∙ (λ j. below n j || (is_slot_of x track ((let z : 0 + n ≡ n = omega arith in z) j) || false))
      ∙ either (slot_below x track n) n (is_slot_of x track n)

  pub is_held : list_any (is_slot_of x track) (range_with_len 0 slots) ≡ is_some (slot_for x track)
  unfolding slot_for
  is_held = below slots

  by_last : (n k : ℕ) (o : Option ℕ) (b : Bool) → slot_below x track n ≡ o → is_slot_of x track n ≡ b → or_else o (if b then Some n else None) ≡ Some k
      → ((j : ℕ) → slot_below x track n ≡ Some j → (j < n) × (is_slot_of x track j ≡ true)) → (k < suc n) × (is_slot_of x track k ≡ true)
  by_last n k (Some j) b found here is before =
      let e : j ≡ k = same_Some j k is in
      let old = before k (found ∙ is) in
      (omega (arith, old.0), old.1)
  by_last n k None true found here is before = let e : n ≡ k = same_Some n k is in (omega (arith, e), ap (is_slot_of x track) (sym e) ∙ here)
  by_last n k None false found here is before = absurd (none-some k is)

  found_below : (n k : ℕ) → slot_below x track n ≡ Some k → (k < n) × (is_slot_of x track k ≡ true)
  found_below zero k is = absurd (none-some k is)
  found_below (suc n) k is = by_last n k (slot_below x track n) (is_slot_of x track n) refl refl is (found_below n)

  -- the slot that is found carries a track
  pub found_carries : (k : ℕ) → slot_for x track ≡ Some k → (k < slots) × (carries x k ≡ true)
  unfolding slot_for
  found_carries k is = let f = found_below slots k is in (f.0, (and_parts (carries x k) ((slot_of x k).track == track) f.1).0)

  not_below : (n k : ℕ) → slot_below x track n ≡ None → k < n → is_slot_of x track k ≡ true → ⊥
  not_below zero k none low is = absurd (omega (arith, low))
  not_below (suc n) k none low is = by_parts (slot_below x track n) (is_slot_of x track n) refl refl none (cases_eq k n) (λ off below. not_below n k off below is)
    where
      by_parts : (o : Option ℕ) (b : Bool) → slot_below x track n ≡ o → is_slot_of x track n ≡ b → or_else o (if b then Some n else None) ≡ None → (k ≡ n) ⊎ (k ≡ n → ⊥) → (slot_below x track n ≡ None → k < n → ⊥) → ⊥
      by_parts (Some j) b found here off where_it before = none-some j (sym off)
      by_parts None true found here off where_it before = none-some n (sym off)
      by_parts None false found here off (inl e) before = true≢false (sym is ∙ ap (is_slot_of x track) e ∙ here)
      by_parts None false found here off (inr ne) before = before found (omega (arith, low, ne))

  -- if no slot is found, none carries the track
  pub none_carries : (k : ℕ) → slot_for x track ≡ None → k < slots → carries x k ≡ true → (slot_of x k).track ≡ track → ⊥
  unfolding slot_for
  none_carries k none low is one = not_below slots k none low (and_from (carries x k) ((slot_of x k).track == track) is (eq-eqb (slot_of x k).track track one))

  -- the slot that is found is the track's
  pub found_track : (k : ℕ) → slot_for x track ≡ Some k → (slot_of x k).track ≡ track
  unfolding slot_for
  found_track k is = eqb-true (slot_of x k).track track (and_parts (carries x k) ((slot_of x k).track == track) (found_below slots k is).1).1
