-- An order cut at an event of the second party.
use Rattle.std.proofs.Common.{◌≡◌, List, [], ◌∷◌, ◌++◌, length, get_or, refl, ap, arith, length-append}
use Rattle.af_model.specs.Order.{Event, one, two, ones, twos, Legal, point_after}

tail_of : {A : Type 0} → List A → List A
tail_of [] = []
tail_of (x ∷ xs) = xs

module _ {A B : Type 0} where
  pub record Split (es : List (Event A B)) (ys : List B) (b : B) (rest : List B) : Type 0 where
    pub before : List (Event A B)
    pub behind : List (Event A B)
    pub whole : es ≡ before ++ two b ∷ behind
    pub first : twos before ≡ ys
    pub second : twos behind ≡ rest

  pub split_at : (es : List (Event A B)) (ys : List B) (b : B) (rest : List B) → twos es ≡ ys ++ b ∷ rest → Split es ys b rest
  unfolding tail_of
  split_at [] ys b rest e = let n : 0 ≡ length (ys ++ b ∷ rest) = ap length e in absurd (omega (arith, length-append ys (b ∷ rest)))
  split_at (one a ∷ es) ys b rest e = let s = split_at es ys b rest e in record { before = one a ∷ s.before; behind = s.behind; whole = ap (λ z. one a ∷ z) s.whole; first = s.first; second = s.second }
  split_at (two x ∷ es) [] b rest e = let same : x ≡ b = ap (λ (l : List B). get_or l 0 x) e in record { before = []; behind = es; whole = ap (λ z. two z ∷ es) same; first = refl; second = ap tail_of e }
  split_at (two x ∷ es) (y ∷ ys) b rest e =
      let s = split_at es ys b rest (ap tail_of e) in
      let same : x ≡ y = ap (λ (l : List B). get_or l 0 x) e in
      record { before = two x ∷ s.before; behind = s.behind; whole = ap (λ z. two x ∷ z) s.whole; first = λ i. same i ∷ s.first i; second = s.second }

  pub ones_append : (xs ys : List (Event A B)) → ones (xs ++ ys) ≡ ones xs ++ ones ys
  ones_append [] ys = refl
  ones_append (one a ∷ xs) ys = ap (λ z. a ∷ z) (ones_append xs ys)
  ones_append (two b ∷ xs) ys = ones_append xs ys

module _ {P E : Type 0} (legal : P → E → Type 0) (next : P → E → P) where
  pub legal_at : (p : P) (xs : List E) (e : E) (ys : List E) → Legal legal next p (xs ++ e ∷ ys) → Legal legal next p xs × legal (point_after legal next p xs) e × Legal legal next (next (point_after legal next p xs) e) ys
  legal_at p [] e ys l = (tt, l.0, l.1)
  legal_at p (x ∷ xs) e ys l = let t = legal_at (next p x) xs e ys l.1 in ((l.0, t.0), t.1, t.2)
