-- One event more at the end of an order.
use Rattle.std.proofs.Common.{◌≡◌, List, [], ◌∷◌, ◌++◌, refl, ap, ◌∙◌}
use Rattle.af_model.specs.Order.{Event, one, two, ones, twos, Legal, point_after, HasOrder}

module _ {A B : Type 0} where
  pub ones_one : (es : List (Event A B)) (a : A) → ones (es ++ one a ∷ []) ≡ ones es ++ a ∷ []
  ones_one [] a = refl
  ones_one (one x ∷ es) a = ap (λ l. x ∷ l) (ones_one es a)
  ones_one (two x ∷ es) a = ones_one es a

  pub ones_two : (es : List (Event A B)) (b : B) → ones (es ++ two b ∷ []) ≡ ones es
  ones_two [] b = refl
  ones_two (one x ∷ es) b = ap (λ l. x ∷ l) (ones_two es b)
  ones_two (two x ∷ es) b = ones_two es b

  pub twos_two : (es : List (Event A B)) (b : B) → twos (es ++ two b ∷ []) ≡ twos es ++ b ∷ []
  twos_two [] b = refl
  twos_two (one x ∷ es) b = twos_two es b
  twos_two (two x ∷ es) b = ap (λ l. x ∷ l) (twos_two es b)

  pub twos_one : (es : List (Event A B)) (a : A) → twos (es ++ one a ∷ []) ≡ twos es
  twos_one [] a = refl
  twos_one (one x ∷ es) a = twos_one es a
  twos_one (two x ∷ es) a = ap (λ l. x ∷ l) (twos_one es a)

module _ {P E : Type 0} (legal : P → E → Type 0) (next : P → E → P) where
  pub after_end : (p : P) (es : List E) (e : E) → point_after legal next p (es ++ e ∷ []) ≡ next (point_after legal next p es) e
  after_end p [] e = refl
  after_end p (x ∷ es) e = after_end (next p x) es e

  pub legal_end : (p : P) (es : List E) (e : E) → Legal legal next p es → legal (point_after legal next p es) e → Legal legal next p (es ++ e ∷ [])
  legal_end p [] e l h = (h, tt)
  legal_end p (x ∷ es) e l h = (l.0, legal_end (next p x) es e l.1 h)

module _ {P A B : Type 0} (legal : P → Event A B → Type 0) (next : P → Event A B → P) where
  abbrev pub add_one : (p : P) (xs : List A) (ys : List B) (a : A) (h : HasOrder legal next p xs ys) → legal (point_after legal next p h.order) (one a) → HasOrder legal next p (xs ++ a ∷ []) ys
  add_one p xs ys a h l = record {
    order = h.order ++ one a ∷ [];
    is_legal = legal_end legal next p h.order (one a) h.is_legal l;
    of_one = ones_one h.order a ∙ ap (λ z. z ++ a ∷ []) h.of_one;
    of_two = twos_one h.order a ∙ h.of_two;
  }

  abbrev pub add_two : (p : P) (xs : List A) (ys : List B) (b : B) (h : HasOrder legal next p xs ys) → legal (point_after legal next p h.order) (two b) → HasOrder legal next p xs (ys ++ b ∷ [])
  add_two p xs ys b h l = record {
    order = h.order ++ two b ∷ [];
    is_legal = legal_end legal next p h.order (two b) h.is_legal l;
    of_one = ones_two h.order b ∙ h.of_one;
    of_two = twos_two h.order b ∙ ap (λ z. z ++ b ∷ []) h.of_two;
  }
