-- What was learnt by the marks of a list, and lists that end with marks.
use Rattle.std.proofs.Common.{◌≡◌, ◌⊎◌, inl, inr, ℕ, zero, suc, ◌≤◌, ◌<◌, max, Bool, true, false, true≢false, MatchBool, fold, List, [], ◌∷◌, ◌++◌, length, refl, sym, ◌∙◌, arith}
use Rattle.af_turn_law.proofs.Common.{fold-append}
use Rattle.af_turn_law.specs.Marking.{Marking, learnt, OnlyMarksPast, IsDue, KnowsAll}

-- a case by a flag
pub by_flag : {X Y : Type 0} (b : Bool) → MatchBool b X Y → ((b ≡ true) × X) ⊎ ((b ≡ false) × Y)
by_flag true h = inl (refl, h)
by_flag false h = inr (refl, h)

pub flag_true : {X : Type 0} (Y : Type 0) (b : Bool) → b ≡ true → X → MatchBool b X Y
flag_true Y true is x = x
flag_true Y false is x = absurd (true≢false (sym is))

pub flag_false : (X : Type 0) {Y : Type 0} (b : Bool) → b ≡ false → Y → MatchBool b X Y
flag_false X true is y = absurd (true≢false is)
flag_false X false is y = y

module _ {E : Type 0} (m : Marking E) where
  -- no event is a mark
  abbrev pub NoMarks : List E → Type 0
  NoMarks [] = Unit {0}
  NoMarks (e ∷ es) = (m.is_mark e ≡ false) × NoMarks es

  pub past_front : (k : ℕ) (xs ys : List E) → OnlyMarksPast m k (xs ++ ys) → OnlyMarksPast m k xs
  past_front k [] ys h = tt
  past_front zero (x ∷ xs) ys h = (h.0, past_front zero xs ys h.1)
  past_front (suc k) (x ∷ xs) ys h = past_front k xs ys h

  -- an event that is no mark isn't past
  pub past_last : (k : ℕ) (xs : List E) (e : E) → m.is_mark e ≡ false → OnlyMarksPast m k (xs ++ e ∷ []) → length xs < k
  past_last zero [] e plain h = absurd (true≢false (sym h.0 ∙ plain))
  past_last (suc k) [] e plain h = omega arith
  past_last zero (x ∷ xs) e plain h = let r = past_last zero xs e plain h.1 in absurd (let z : ⊥ = omega (arith, r) in z)
  past_last (suc k) (x ∷ xs) e plain h = let r = past_last k xs e plain h in omega (arith, r)

  pub past_all : (k : ℕ) (xs : List E) → length xs ≤ k → OnlyMarksPast m k xs
  past_all k [] le = tt
  past_all zero (x ∷ xs) le = absurd (let z : ⊥ = omega (arith, le) in z)
  past_all (suc k) (x ∷ xs) le = past_all k xs (omega (arith, le))

  pub past_more : (k n : ℕ) (xs : List E) → k ≤ n → OnlyMarksPast m k xs → OnlyMarksPast m n xs
  past_more k n [] le h = tt
  past_more zero zero (x ∷ xs) le h = h
  past_more zero (suc n) (x ∷ xs) le h = past_more zero n xs (omega arith) h.1
  past_more (suc k) zero (x ∷ xs) le h = absurd (let z : ⊥ = omega (arith, le) in z)
  past_more (suc k) (suc n) (x ∷ xs) le h = past_more k n xs (omega (arith, le)) h

  pub past_marks : (k : ℕ) (xs ys : List E) → OnlyMarksPast m k xs → OnlyMarksPast m 0 ys → OnlyMarksPast m k (xs ++ ys)
  past_marks k [] ys h marks = past_more 0 k ys (omega arith) marks
  past_marks zero (x ∷ xs) ys h marks = (h.0, past_marks zero xs ys h.1 marks)
  past_marks (suc k) (x ∷ xs) ys h marks = past_marks k xs ys h marks

  pub learnt_last : (xs : List E) (e : E) → learnt m (xs ++ e ∷ []) ≡ max (m.named e) (learnt m xs)
  learnt_last xs e = fold-append (λ most e. max (m.named e) most) 0 xs (e ∷ [])

  learnt_from : (n : ℕ) (xs : List E) → n ≤ fold (λ most e. max (m.named e) most) n xs
  learnt_from n [] = omega arith
  learnt_from n (x ∷ xs) = let r = learnt_from (max (m.named x) n) xs in omega (arith, r)

  pub learnt_more : (xs ys : List E) → learnt m xs ≤ learnt m (xs ++ ys)
  learnt_more xs ys = let r = learnt_from (learnt m xs) ys in let e = fold-append (λ most e. max (m.named e) most) 0 xs ys in omega (arith, r, e)

  pub none_join : (xs ys : List E) → NoMarks xs → NoMarks ys → NoMarks (xs ++ ys)
  none_join [] ys a b = b
  none_join (x ∷ xs) ys a b = (a.0, none_join xs ys a.1 b)

module _ {A B : Type 0} (mine : Marking A) (others : Marking B) where
  -- what is known stays known, whatever the party does
  pub knows_more : (xs more : List A) (ys : List B) → KnowsAll mine others xs ys → KnowsAll mine others (xs ++ more) ys
  knows_more xs more ys h = past_more others (learnt mine xs) (learnt mine (xs ++ more)) ys (learnt_more mine xs more) h

  -- what is known stays all if the other party meets
  pub knows_met : (xs : List A) (ys : List B) (b : B) → others.is_mark b ≡ true → KnowsAll mine others xs ys → KnowsAll mine others xs (ys ++ b ∷ [])
  knows_met xs ys b mark h = past_marks others (learnt mine xs) ys (b ∷ []) h (mark, tt)

  -- all is known after a mark that names all
  pub knows_now : (xs : List A) (ys : List B) (a : A) → length ys ≤ mine.named a → KnowsAll mine others (xs ++ a ∷ []) ys
  knows_now xs ys a all = let e = learnt_last mine xs a in past_all others (learnt mine (xs ++ a ∷ [])) ys (omega (arith, e, all))

  pub due_plain : (xs : List A) (ys : List B) (a : A) → mine.is_mark a ≡ false → KnowsAll mine others xs ys → IsDue mine others xs ys a
  due_plain xs ys a plain h = flag_false _ (mine.is_mark a) plain h

  pub due_mark : (xs : List A) (ys : List B) (a : A) → mine.is_mark a ≡ true → mine.named a ≤ length ys → IsDue mine others xs ys a
  due_mark xs ys a mark h = flag_true _ (mine.is_mark a) mark h
