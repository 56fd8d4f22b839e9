-- What the last step in an order of two ends is, and which counts are open after one step more.
use Rattle.std.proofs.Common.{◌≡◌, ◌⊎◌, inl, inr, suc, List, [], ◌∷◌, ◌++◌, length, refl, sym, ap, subst, ◌∙◌, arith, length-append}
use Rattle.af_judge.proofs.Common.{Event, Legal, point_after, legal_at, one, ones, two, twos}
use Rattle.af_model.proofs.Orders.{ones_one, ones_two, twos_one, twos_two, add_one, add_two}
use Rattle.af_judge.specs.TwoEnds.{Ends, HasEndsOrder, ends_after, ends_next}

-- ## The last of a list

-- a list is empty, or ends with something
abbrev EndsWith : {E : Type 0} → List E → Type 0
EndsWith {E} es = (es ≡ []) ⊎ ((start : List E) × (e : E) × (es ≡ start ++ e ∷ []))

ends_with : {E : Type 0} (es : List E) → EndsWith es
ends_with [] = inl refl
ends_with (x ∷ es) = elim (ends_with es) as (λ s. EndsWith (x ∷ es)) [ inl none ↦ inr ([], x, ap (λ l. x ∷ l) none) | inr some ↦ inr (x ∷ some.0, some.1, ap (λ l. x ∷ l) some.2) ]

-- two lists with one thing more at their ends are the same if both parts are
same_ends : {E : Type 0} (xs zs : List E) (a b : E) → xs ++ a ∷ [] ≡ zs ++ b ∷ [] → (xs ≡ zs) × (a ≡ b)
same_ends [] [] a b e = (refl, cc)
same_ends [] (z ∷ zs) a b e = let n : 1 ≡ suc (length (zs ++ b ∷ [])) = ap length e in absurd (omega (arith, length-append zs (b ∷ [])))
same_ends (x ∷ xs) [] a b e = let n : suc (length (xs ++ a ∷ [])) ≡ 1 = ap length e in absurd (omega (arith, length-append xs (a ∷ [])))
same_ends (x ∷ xs) (z ∷ zs) a b e =
    let rest : xs ++ a ∷ [] ≡ zs ++ b ∷ [] = cc in
    let head : x ≡ z = cc in
    let same = same_ends xs zs a b rest in
    let tails : xs ≡ zs = same.0 in
    (cc, same.1)

not_empty : {E : Type 0} (xs : List E) (a : E) → xs ++ a ∷ [] ≡ [] → ⊥
not_empty xs a e = let n : length (xs ++ a ∷ []) ≡ 0 = ap length e in absurd (omega (arith, length-append xs (a ∷ [])))

module _ {M O A B : Type 0} (legal : Ends M O → Event A B → Type 0) (first_after : M → A → M) (second_after : O → B → O) where
  -- the halves that an order leaves are those of its two lists
  pub after_lists : (p : Ends M O) (es : List (Event A B)) → point_after legal (ends_next legal first_after second_after) p es ≡ ends_after legal first_after second_after p (ones es) (twos es)
  after_lists p [] = refl
  after_lists p (one a ∷ es) = after_lists (ends_next legal first_after second_after p (one a)) es
  after_lists p (two b ∷ es) = after_lists (ends_next legal first_after second_after p (two b)) es

  module _ (p : Ends M O) where
    abbrev Reach : List A → List B → Type 0
    Reach xs ys = HasEndsOrder legal first_after second_after p xs ys

    -- a step is legal after these lists
    abbrev May : List A → List B → Event A B → Type 0
    May xs ys e = legal (ends_after legal first_after second_after p xs ys) e

    after_order : (xs : List A) (ys : List B) (h : Reach xs ys) → point_after legal (ends_next legal first_after second_after) p h.order ≡ ends_after legal first_after second_after p xs ys
    after_order xs ys h = after_lists p h.order ∙ (ap (λ l. ends_after legal first_after second_after p l (twos h.order)) h.of_one ∙ ap (λ l. ends_after legal first_after second_after p xs l) h.of_two)

    pub reach_one : (xs : List A) (ys : List B) (a : A) → Reach xs ys → May xs ys (one a) → Reach (xs ++ a ∷ []) ys
    reach_one xs ys a h may = add_one legal (ends_next legal first_after second_after) p xs ys a h (subst (λ q. legal q (one a)) (sym (after_order xs ys h)) may)

    pub reach_two : (xs : List A) (ys : List B) (b : B) → Reach xs ys → May xs ys (two b) → Reach xs (ys ++ b ∷ [])
    reach_two xs ys b h may = add_two legal (ends_next legal first_after second_after) p xs ys b h (subst (λ q. legal q (two b)) (sym (after_order xs ys h)) may)

    -- an order of these lists: none, or one with its last step
    data Last (xs : List A) (ys : List B) : Type 0 where
      nothing : xs ≡ [] → ys ≡ [] → Last xs ys
      last_one : (zs : List A) (a : A) → xs ≡ zs ++ a ∷ [] → Reach zs ys → May zs ys (one a) → Last xs ys
      last_two : (zs : List B) (b : B) → ys ≡ zs ++ b ∷ [] → Reach xs zs → May xs zs (two b) → Last xs ys

    last_of : (es : List (Event A B)) → Legal legal (ends_next legal first_after second_after) p es → EndsWith es → Last (ones es) (twos es)
    last_of es l (inl none) = nothing (ap ones none) (ap twos none)
    last_of es l (inr (start, one a, whole)) =
        let parts = legal_at legal (ends_next legal first_after second_after) p start (one a) [] (subst (λ x. Legal legal (ends_next legal first_after second_after) p x) whole l) in
        last_one (ones start) a (ap ones whole ∙ ones_one start a)
        (subst (λ l. Reach (ones start) l) (sym (ap twos whole ∙ twos_one start a)) (record { order = start; is_legal = parts.0; of_one = refl; of_two = refl }))
        (subst (λ l. May (ones start) l (one a)) (sym (ap twos whole ∙ twos_one start a)) (subst (λ q. legal q (one a)) (after_lists p start) parts.1))
    last_of es l (inr (start, two b, whole)) =
        let parts = legal_at legal (ends_next legal first_after second_after) p start (two b) [] (subst (λ x. Legal legal (ends_next legal first_after second_after) p x) whole l) in
        last_two (twos start) b (ap twos whole ∙ twos_two start b)
        (subst (λ l. Reach l (twos start)) (sym (ap ones whole ∙ ones_two start b)) (record { order = start; is_legal = parts.0; of_one = refl; of_two = refl }))
        (subst (λ l. May l (twos start) (two b)) (sym (ap ones whole ∙ ones_two start b)) (subst (λ q. legal q (two b)) (after_lists p start) parts.1))

    last : (xs : List A) (ys : List B) → Reach xs ys → Last xs ys
    last xs ys h = subst (λ l. Last xs l) h.of_two (subst (λ l. Last l (twos h.order)) h.of_one (last_of h.order h.is_legal (ends_with h.order)))

    -- ## What one step more leaves

    -- nothing of either end has a legal order
    pub reach_none : Reach [] []
    reach_none = record { order = []; is_legal = tt; of_one = refl; of_two = refl }

    -- the last step may be the first end's, with none of the second
    pub back_none : (xs : List A) (a : A) → Reach (xs ++ a ∷ []) [] → Reach xs [] × May xs [] (one a)
    back_none xs a h = elim (last (xs ++ a ∷ []) [] h) [
      | nothing e f ↦ absurd (not_empty xs a e)
      | last_one zs b e r m ↦ (let same = same_ends xs zs a b e in (subst (λ l. Reach l []) (sym same.0) r, subst (λ l. May l [] (one a)) (sym same.0) (subst (λ x. May zs [] (one x)) (sym same.1) m)))
      | last_two zs b e r m ↦ absurd (not_empty zs b (sym e))
    ]

    -- the last step may be the second end's, with none of the first
    pub back_first : (ys : List B) (b : B) → Reach [] (ys ++ b ∷ []) → Reach [] ys × May [] ys (two b)
    back_first ys b h = elim (last [] (ys ++ b ∷ []) h) [
      | nothing e f ↦ absurd (not_empty ys b f)
      | last_one zs a e r m ↦ absurd (not_empty zs a (sym e))
      | last_two zs c e r m ↦ (let same = same_ends ys zs b c e in (subst (λ l. Reach [] l) (sym same.0) r, subst (λ l. May [] l (two b)) (sym same.0) (subst (λ x. May [] zs (two x)) (sym same.1) m)))
    ]

    -- the last step may be either end's
    pub back_both : (xs : List A) (a : A) (ys : List B) (b : B) → Reach (xs ++ a ∷ []) (ys ++ b ∷ [])
        → (Reach (xs ++ a ∷ []) ys × May (xs ++ a ∷ []) ys (two b)) ⊎ (Reach xs (ys ++ b ∷ []) × May xs (ys ++ b ∷ []) (one a))
    back_both xs a ys b h = elim (last (xs ++ a ∷ []) (ys ++ b ∷ []) h) [
      | nothing e f ↦ absurd (not_empty xs a e)
      | last_one zs c e r m ↦ inr (let same = same_ends xs zs a c e in (subst (λ l. Reach l (ys ++ b ∷ [])) (sym same.0) r, subst (λ l. May l (ys ++ b ∷ []) (one a)) (sym same.0) (subst (λ x. May zs (ys ++ b ∷ []) (one x)) (sym same.1) m)))
      | last_two zs c e r m ↦ inl (let same = same_ends ys zs b c e in (subst (λ l. Reach (xs ++ a ∷ []) l) (sym same.0) r, subst (λ l. May (xs ++ a ∷ []) l (two b)) (sym same.0) (subst (λ x. May (xs ++ a ∷ []) zs (two x)) (sym same.1) m)))
    ]
