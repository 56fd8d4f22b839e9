-- Which counts are open, by those that were open before the last step.
use Rattle.std.specs.Prelude.{◌↔◌}
use Rattle.std.proofs.Common.{◌≡◌, ◌⊎◌, ◌≢◌, inl, inr, ℕ, zero, suc, ◌+◌, ◌<◌, ◌≤◌, Bool, true, false, fold, List, [], ◌∷◌, ◌++◌, length, take, replicate, Some, refl, sym, ap, subst, ◌∙◌, arith, true≢false}
use Rattle.af_judge.proofs.Common.{Event, IsTrue, below_or_at, get_or-set_other, get_or-set_same, one, slice_get, slice_get_cases, slice_index_or, slice_set, take_step, two}
use Rattle.af_judge.specs.TwoEnds.{AreOpen, Ends, HasEndsOrder, ends_after}
use Rattle.af_judge.proofs.TwoEnds.{reach_none, reach_one, reach_two, back_none, back_first, back_both}

-- ## A loop that opens counts

module _ {A : Type 0} (S : ℕ → A → Type 0) (steps : List A) where
  -- a count is open if it was, or if the one before it leads to it
  abbrev Opens : ℕ → A → (counts first here : Bool) → Type 0
  Opens i step next old here = IsTrue next ↔ (IsTrue old ⊎ (IsTrue here × S i step))

  opens-same : (i : ℕ) (step : A) (a b c d e f : Bool) → a ≡ d → b ≡ e → c ≡ f → Opens i step d e f → Opens i step a b c
  opens-same i step a b c d e f p q r h = subst (λ x. Opens i step x b c) (sym p) (subst (λ x. Opens i step d x c) (sym q) (subst (λ x. Opens i step d e x) (sym r) h))

  pub opened_more : (first counts : List Bool) (at : ℕ) (v : Bool) → at < length steps → length counts ≡ length steps + 1
      → ((i : ℕ) → at < i → slice_index_or counts i false ≡ slice_index_or first i false)
      → ((i : ℕ) (step : A) → i < at → slice_get steps i ≡ Some step → Opens i step (slice_index_or counts (i + 1) false) (slice_index_or first (i + 1) false) (slice_index_or counts i false))
      → ((step : A) → slice_get steps at ≡ Some step → Opens at step v (slice_index_or counts (at + 1) false) (slice_index_or counts at false))
      → (i : ℕ) (step : A) → i < at + 1 → slice_get steps i ≡ Some step
      → Opens i step (slice_index_or (slice_set counts (at + 1) v) (i + 1) false) (slice_index_or first (i + 1) false) (slice_index_or (slice_set counts (at + 1) v) i false)
  opened_more first counts at v inside long rest before here i step low is =
      let other : i ≢ at + 1 = (λ e. absurd (omega (arith, low, e))) in
      let kept : slice_index_or (slice_set counts (at + 1) v) i false ≡ slice_index_or counts i false = get_or-set_other counts (at + 1) i v false other in
      elim (below_or_at i at low) [
        | inl below ↦
            (let apart : i + 1 ≢ at + 1 = (λ e. absurd (omega (arith, below, e))) in
            opens-same i step _ _ _ _ _ _ (get_or-set_other counts (at + 1) (i + 1) v false apart) refl kept (before i step below is))
        | inr same ↦
            (let next : slice_index_or (slice_set counts (at + 1) v) (i + 1) false ≡ v =
            subst (λ k. slice_index_or (slice_set counts (at + 1) v) (k + 1) false ≡ v) (sym same) (get_or-set_same counts (at + 1) v false (omega arith)) in
            let old : slice_index_or first (i + 1) false ≡ slice_index_or counts (at + 1) false =
            subst (λ k. slice_index_or first (k + 1) false ≡ slice_index_or counts (at + 1) false) (sym same) (sym (rest (at + 1) (omega arith))) in
            let from : slice_index_or (slice_set counts (at + 1) v) i false ≡ slice_index_or counts at false = kept ∙ ap (λ k. slice_index_or counts k false) same in
            opens-same i step _ _ _ _ _ _ next old from (subst (λ k. Opens k step v (slice_index_or counts (at + 1) false) (slice_index_or counts at false)) (sym same) (here step (subst (λ k. slice_get steps k ≡ Some step) same is))))
      ]

  -- what the counts tell, if each is told by the one before it
  pub settled : (R B : ℕ → Type 0) (before counts : List Bool)
      → R 0 ↔ B 0
      → ((i : ℕ) (a : A) → slice_get steps i ≡ Some a → R (i + 1) ↔ (B (i + 1) ⊎ (R i × S i a)))
      → ((i : ℕ) → i ≤ length steps → IsTrue (slice_index_or before i false) ↔ B i)
      → slice_index_or counts 0 false ≡ slice_index_or before 0 false
      → ((i : ℕ) (a : A) → slice_get steps i ≡ Some a → Opens i a (slice_index_or counts (i + 1) false) (slice_index_or before (i + 1) false) (slice_index_or counts i false))
      → (i : ℕ) → i ≤ length steps → IsTrue (slice_index_or counts i false) ↔ R i
  settled R B before counts base step known first each zero low =
      (λ h. base.1 ((known 0 low).0 (sym first ∙ h)), λ r. first ∙ (known 0 low).1 (base.0 r))
  settled R B before counts base step known first each (suc i) low =
      let next : i + 1 ≡ suc i = omega arith in
      elim (slice_get_cases steps i).1 [
        | inl there ↦
            (let a = there.0 in
            let is : slice_get steps i ≡ Some a = there.2 in
            let here = settled R B before counts base step known first each i (omega arith) in
            let old = known (i + 1) (omega arith) in
            let opens = each i a is in
            let leads = step i a is in
            let goes : IsTrue (slice_index_or counts (i + 1) false) → R (i + 1) =
            (λ h. leads.1 (elim (opens.0 h) [ inl o ↦ inl (old.0 o) | inr f ↦ inr (here.0 f.0, f.1) ])) in
            let comes : R (i + 1) → IsTrue (slice_index_or counts (i + 1) false) =
            (λ r. opens.1 (elim (leads.0 r) [ inl o ↦ inl (old.1 o) | inr f ↦ inr (here.1 f.0, f.1) ])) in
            subst (λ k. IsTrue (slice_index_or counts k false) ↔ R k) next (goes, comes))
        | inr past ↦ absurd (omega (arith, past.0))
      ]

-- ## The counts that are open

take_none : {A : Type 0} (xs : List A) → take 0 xs ≡ []
take_none [] = refl
take_none (x ∷ xs) = refl

fold-snoc : {X Y : Type 0} (f : Y → X → Y) (y : Y) (xs : List X) (x : X) → fold f y (xs ++ x ∷ []) ≡ f (fold f y xs) x
fold-snoc f y [] x = refl
fold-snoc f y (z ∷ xs) x = fold-snoc f (f y z) xs x

-- only the first count is open before any step
begun : (n i : ℕ) → IsTrue (slice_index_or (true ∷ replicate n false) i false) ↔ (i ≡ 0)
begun n zero = (λ h. refl, λ e. refl)
begun n (suc i) = (λ h. absurd (true≢false (sym h ∙ none n i)), λ e. absurd (omega (arith, e)))
  where
    none : (n i : ℕ) → slice_index_or (replicate n false) i false ≡ false
    none zero i = refl
    none (suc n) zero = refl
    none (suc n) (suc i) = none n i

module _ {M O A B : Type 0} (legal : Ends M O → Event A B → Type 0) (first_after : M → A → M) (second_after : O → B → O) (p : Ends M O) (xs : List A) where
  abbrev Reach : List A → List B → Type 0
  Reach zs ys = HasEndsOrder legal first_after second_after p zs ys

  abbrev May : List A → List B → Event A B → Type 0
  May zs ys e = legal (ends_after legal first_after second_after p zs ys) e

  -- an event is legal by the half of the second end
  abbrev At : List A → O → Event A B → Type 0
  At zs o e = legal (record { first = (ends_after legal first_after second_after p zs []).first; second = o }) e

  -- the counts before any step of the second end
  pub open_first : (before counts : List Bool) → before ≡ true ∷ replicate (length xs) false → length counts ≡ length xs + 1
      → slice_index_or counts 0 false ≡ slice_index_or before 0 false
      → ((i : ℕ) (a : A) → slice_get xs i ≡ Some a → IsTrue (slice_index_or counts (i + 1) false) ↔ (IsTrue (slice_index_or before (i + 1) false) ⊎ (IsTrue (slice_index_or counts i false) × May (take i xs) [] (one a))))
      → AreOpen legal first_after second_after p xs [] counts
  open_first before counts is_first long first each = record {
    each = long;
    is_open = settled (λ i a. May (take i xs) [] (one a)) xs (λ i. Reach (take i xs) []) (λ i. i ≡ 0) before counts
        (λ r. refl, λ e. subst (λ l. Reach l []) (sym (take_none xs)) (reach_none legal first_after second_after p))
        (λ i a is. (
          λ r. inr (back_none legal first_after second_after p (take i xs) a (subst (λ l. Reach l []) (take_step xs i a is) r)),
          λ s. elim s [
            | inl e ↦ absurd (omega (arith, e))
            | inr f ↦ subst (λ l. Reach l []) (sym (take_step xs i a is)) (reach_one legal first_after second_after p (take i xs) [] a f.0 f.1)
          ],
        ))
        (λ i low. subst (λ l. IsTrue (slice_index_or l i false) ↔ (i ≡ 0)) (sym is_first) (begun (length xs) i)) first each;
  }

  -- the counts after one step more of the second end
  pub open_next : (ys : List B) (b : B) (before passed counts : List Bool) → AreOpen legal first_after second_after p xs ys before
      → length counts ≡ length xs + 1
      → ((i : ℕ) → i < length before → IsTrue (slice_index_or passed i false) ↔ (IsTrue (slice_index_or before i false) × May (take i xs) ys (two b)))
      → slice_index_or counts 0 false ≡ slice_index_or passed 0 false
      → ((i : ℕ) (a : A) → slice_get xs i ≡ Some a → IsTrue (slice_index_or counts (i + 1) false) ↔ (IsTrue (slice_index_or passed (i + 1) false) ⊎ (IsTrue (slice_index_or counts i false) × May (take i xs) (ys ++ b ∷ []) (one a))))
      → AreOpen legal first_after second_after p xs (ys ++ b ∷ []) counts
  open_next ys b before passed counts are long passes first each = record {
    each = long;
    is_open = settled (λ i a. May (take i xs) (ys ++ b ∷ []) (one a)) xs (λ i. Reach (take i xs) (ys ++ b ∷ [])) (λ i. Reach (take i xs) ys × May (take i xs) ys (two b)) passed counts (
      λ r. subst (λ l. Reach l ys × May l ys (two b)) (sym (take_none xs)) (back_first legal first_after second_after p ys b (subst (λ l. Reach l (ys ++ b ∷ [])) (take_none xs) r)),
      λ s. reach_two legal first_after second_after p (take 0 xs) ys b s.0 s.1,
    )
        (λ i a is. (
          λ r. elim (back_both legal first_after second_after p (take i xs) a ys b (subst (λ l. Reach l (ys ++ b ∷ [])) (take_step xs i a is) r)) [
            | inl s ↦ inl (subst (λ l. Reach l ys × May l ys (two b)) (sym (take_step xs i a is)) s)
            | inr s ↦ inr s
          ],
          λ s. elim s [
            | inl t ↦ reach_two legal first_after second_after p (take (i + 1) xs) ys b t.0 t.1
            | inr f ↦ subst (λ l. Reach l (ys ++ b ∷ [])) (sym (take_step xs i a is)) (reach_one legal first_after second_after p (take i xs) (ys ++ b ∷ []) a f.0 f.1)
          ],
        ))
        (λ i low.
        (let known = are.is_open i low in
        let passing = passes i (omega (arith, are.each, low)) in
        (λ h. (let s = passing.0 h in (known.0 s.0, s.1)), λ s. passing.1 (known.1 s.0, s.1))))
        first each;
  }

  -- the counts after one step more, by the second end's halves before and after it
  pub open_step : (ys : List B) (b : B) (here next : O) (before passed counts : List Bool) → here ≡ (ends_after legal first_after second_after p [] ys).second → next ≡ second_after here b
      → AreOpen legal first_after second_after p xs ys before
      → length counts ≡ length xs + 1
      → ((i : ℕ) → i < length before → IsTrue (slice_index_or passed i false) ↔ (IsTrue (slice_index_or before i false) × At (take i xs) here (two b)))
      → slice_index_or counts 0 false ≡ slice_index_or passed 0 false
      → ((i : ℕ) (a : A) → slice_get xs i ≡ Some a → IsTrue (slice_index_or counts (i + 1) false) ↔ (IsTrue (slice_index_or passed (i + 1) false) ⊎ (IsTrue (slice_index_or counts i false) × At (take i xs) next (one a))))
      → AreOpen legal first_after second_after p xs (ys ++ b ∷ []) counts
  open_step ys b here next before passed counts here_is next_is are long passes first each =
      let after : next ≡ (ends_after legal first_after second_after p [] (ys ++ b ∷ [])).second = next_is ∙ (ap (λ o. second_after o b) here_is ∙ sym (fold-snoc second_after p.second ys b)) in
      open_next ys b before passed counts are long
      (λ i low. subst (λ o. IsTrue (slice_index_or passed i false) ↔ (IsTrue (slice_index_or before i false) × At (take i xs) o (two b))) here_is (passes i low))
      first
      (λ i a is. subst (λ o. IsTrue (slice_index_or counts (i + 1) false) ↔ (IsTrue (slice_index_or passed (i + 1) false) ⊎ (IsTrue (slice_index_or counts i false) × At (take i xs) o (one a)))) after (each i a is))
