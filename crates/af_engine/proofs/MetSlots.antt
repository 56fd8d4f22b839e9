-- The slot in which a state carries the proxy of a track.
use Rattle.std.proofs.Common.{◌≡◌, ◌≢◌, ℕ, zero, suc, ◌+◌, ◌-◌, ◌<◌, ◌≤◌, ◌==◌, Bool, true, false, true≢false, if◌then◌else◌, List, Option, Some, None, refl, sym, ap, subst, ◌∙◌, ⊎_elim, arith}
use Rattle.af_engine.proofs.Common.{CarriesNone, FastState, ServerState, and_from, and_left, and_parts, at, carries, cases_eq, eq-eqb, eqb-true, is_slot_of, item_at, none-some, or_else, same_Some, slot_below, slot_for, slot_of, slots}

module _ (x : FastState) (track : ℕ) where
  below_by : (n k : ℕ) (o : Option ℕ) (b : Bool) → (o ≡ Some k → (k < n) × (is_slot_of x track k ≡ true)) → is_slot_of x track n ≡ b
      → or_else o (if b then Some n else None) ≡ Some k
      → (k < suc n) × (is_slot_of x track k ≡ true)
  below_by n k (Some j) b before here is = let found = before is in (omega (arith, found.0), found.1)
  below_by n k None true before here is = subst (λ (j : ℕ). (j < suc n) × (is_slot_of x track j ≡ true)) (same_Some n k is) (omega arith, here)
  below_by n k None false before here is = absurd (none-some k is)

  -- a slot that is found among the first n lies among them and carries the track
  below_is : (n k : ℕ) → slot_below x track n ≡ Some k → (k < n) × (is_slot_of x track k ≡ true)
  below_is zero k is = absurd (none-some k is)
  below_is (suc n) k is = below_by n k (slot_below x track n) (is_slot_of x track n) (below_is n k) refl is

  -- a slot that is found among some slots is found among more
  below_stays : (m n k j : ℕ) → n ≡ m + k → slot_below x track k ≡ Some j → slot_below x track n ≡ Some j
  below_stays zero n k j is found = subst (λ (i : ℕ). slot_below x track i ≡ Some j) (let e : k ≡ n = omega (arith, is) in e) found
  below_stays (suc m) zero k j is found = absurd (omega (arith, is))
  below_stays (suc m) (suc n) k j is found = ap (λ (o : Option ℕ). or_else o (if is_slot_of x track n then Some n else None))
      (below_stays m n k j (omega (arith, is)) found)

  pub found_at : (k : ℕ) → k < slots → slot_below x track k ≡ None → is_slot_of x track k ≡ true → slot_for x track ≡ Some k
  unfolding slot_for
  found_at k lt none carried = below_stays (slots - suc k) slots (suc k) k (omega (arith, lt)) (λ i. or_else (none i) (if carried i then Some k else None))

  pub none_found : slot_below x track slots ≡ None → slot_for x track ≡ None
  unfolding slot_for
  none_found none = none

  -- the slot that is found carries the track
  pub slot_is : (k : ℕ) → slot_for x track ≡ Some k → (k < slots) × (carries x k ≡ true) × ((slot_of x k).track ≡ track)
  unfolding slot_for
  slot_is k is = let b = below_is slots k is in let parts = and_parts (carries x k) ((slot_of x k).track == track) b.1 in
      (b.0, parts.0, eqb-true (slot_of x k).track track parts.1)

  none_of : (n : ℕ) (o : Option ℕ) (b : Bool) → or_else o (if b then Some n else None) ≡ None → (o ≡ None) × (b ≡ false)
  none_of n (Some j) b is = absurd (none-some j (sym is))
  none_of n None true is = absurd (none-some n (sym is))
  none_of n None false is = (refl, refl)

  none_at : (n k : ℕ) → slot_below x track n ≡ None → k < n → is_slot_of x track k ≡ false
  none_at zero k none lt = absurd (omega (arith, lt))
  none_at (suc n) k none lt =
      let before = none_of n (slot_below x track n) (is_slot_of x track n) none in
      ⊎_elim (λ (e : k ≡ n). ap (is_slot_of x track) e ∙ before.1) (λ (ne : k ≢ n). none_at n k before.0 (omega (arith, lt, ne))) (cases_eq k n)

  -- if no slot is found, none carries the track
  pub none_there : slot_for x track ≡ None → (k : ℕ) → k < slots → is_slot_of x track k ≡ false
  unfolding slot_for
  none_there none k lt = none_at slots k none lt

  only_by : (k : ℕ) (o : Option ℕ) → slot_for x track ≡ o → k < slots → is_slot_of x track k ≡ true → ((j : ℕ) → j < slots → is_slot_of x track j ≡ true → j ≡ k) → slot_for x track ≡ Some k
  only_by k None is lt carried only = absurd (true≢false (sym carried ∙ none_there is k lt))
  only_by k (Some j) is lt carried only = let s = slot_is j is in is ∙ ap (λ (n : ℕ). Some n) (only j s.0 (and_from (carries x j) ((slot_of x j).track == track) s.1 (eq-eqb (slot_of x j).track track s.2)))

  -- a slot that alone carries the track is found
  pub only_slot : (k : ℕ) → k < slots → is_slot_of x track k ≡ true → ((j : ℕ) → j < slots → is_slot_of x track j ≡ true → j ≡ k) → slot_for x track ≡ Some k
  only_slot k lt carried only = only_by k (slot_for x track) refl lt carried only

  none_below : CarriesNone x → (n : ℕ) → n ≤ slots → slot_below x track n ≡ None
  none_below none zero le = refl
  none_below none (suc n) le = λ i. or_else (none_below none n (omega (arith, le)) i)
      (if and_left (carries x n) ((slot_of x n).track == track) (none n (omega (arith, le))) i then Some n else None)

  -- a state that carries nothing has no slot for the track
  pub none_carried : CarriesNone x → slot_for x track ≡ None
  unfolding slot_for
  none_carried none = none_below none slots (omega arith)

-- no slot is that of two tracks
pub one_track : (x : FastState) (i j k : ℕ) → slot_for x i ≡ Some k → slot_for x j ≡ Some k → i ≡ j
one_track x i j k is_i is_j = sym (slot_is x i k is_i).2 ∙ (slot_is x j k is_j).2

module _ (x : FastState) (i : ℕ) (items items' : List (Option ServerState)) (others : (k : ℕ) → slot_for x i ≢ Some k → at items' k ≡ at items k) where
  by_slot : (j : ℕ) → j ≢ i → (o : Option ℕ) → slot_for x j ≡ o → item_at items' o ≡ item_at items o
  by_slot j ne None is = refl
  by_slot j ne (Some k) is = others k (λ e. ne (one_track x j i k is e))

  -- if only the item of one track changed, that of any other stays
  pub held_other : (j : ℕ) → j ≢ i → item_at items' (slot_for x j) ≡ item_at items (slot_for x j)
  held_other j ne = by_slot j ne (slot_for x j) refl
