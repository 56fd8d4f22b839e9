-- What stands before an event in an order of two parties.
use Rattle.std.proofs.Common.{◌≡◌, ℕ, ◌+◌, ◌≤◌, List, [], ◌∷◌, ◌++◌, length, refl, sym, ap, ◌∙◌, subst, arith, length-append}
use Rattle.af_enough_law.proofs.Common.{Event, HasOrder, Legal, legal_at, one, ones, ones_append, split_at, two, twos}
use Rattle.af_model.specs.Order.{point_after}
use Rattle.af_enough_law.specs.Seen.{Stands, Sees}

-- ## The parties exchanged

module _ {A B : Type 0} where
  abbrev pub swap : Event A B → Event B A
  swap (one a) = two a
  swap (two b) = one b

  abbrev pub swap_order : List (Event A B) → List (Event B A)
  swap_order [] = []
  swap_order (e ∷ es) = swap e ∷ swap_order es

  pub ones_swap : (es : List (Event A B)) → ones (swap_order es) ≡ twos es
  ones_swap [] = refl
  ones_swap (one a ∷ es) = ones_swap es
  ones_swap (two b ∷ es) = ap (λ z. b ∷ z) (ones_swap es)

  pub twos_swap : (es : List (Event A B)) → twos (swap_order es) ≡ ones es
  twos_swap [] = refl
  twos_swap (one a ∷ es) = ap (λ z. a ∷ z) (twos_swap es)
  twos_swap (two b ∷ es) = twos_swap es

pub swap_back : {A B : Type 0} (e : Event A B) → swap (swap e) ≡ e
swap_back (one a) = refl
swap_back (two b) = refl

module _ {P A B : Type 0} (legal : P → Event A B → Type 0) (next : P → Event A B → P) where
  abbrev pub legal_swapped : P → Event B A → Type 0
  legal_swapped p e = legal p (swap e)

  abbrev pub next_swapped : P → Event B A → P
  next_swapped p e = next p (swap e)

  pub swap_legal : (p : P) (es : List (Event A B)) → Legal legal next p es → Legal legal_swapped next_swapped p (swap_order es)
  swap_legal p [] l = tt
  swap_legal p (e ∷ es) l = (
    subst (legal p) (sym (swap_back e)) l.0,
    subst (λ (q : P). Legal legal_swapped next_swapped q (swap_order es)) (ap (next p) (sym (swap_back e))) (swap_legal (next p e) es l.1),
  )

  pub swapped : (p : P) (xs : List A) (ys : List B) → HasOrder legal next p xs ys → HasOrder legal_swapped next_swapped p ys xs
  swapped p xs ys h = record { order = swap_order h.order; is_legal = swap_legal p h.order h.is_legal; of_one = ones_swap h.order ∙ h.of_two; of_two = twos_swap h.order ∙ h.of_one }

-- ## What the second party sees of the first

-- `count` is how many events the first party had, and `learn n` is that of a meeting in which the second party learns of n
module _ {P A B : Type 0} (legal : P → Event A B → Type 0) (next : P → Event A B → P) (count : P → ℕ) (learn : ℕ → B)
    (count_one : (p : P) (a : A) → count (next p (one a)) ≡ count p + 1) (count_two : (p : P) (b : B) → count (next p (two b)) ≡ count p)
    (learns : (p : P) (n : ℕ) → legal p (two (learn n)) → n ≤ count p) where
  pub counted : (p : P) (es : List (Event A B)) → count (point_after legal next p es) ≡ count p + length (ones es)
  counted p [] = omega arith
  counted p (one a ∷ es) = let rest = counted (next p (one a)) es in let first = count_one p a in omega arith
  counted p (two b ∷ es) = let rest = counted (next p (two b)) es in let first = count_two p b in omega arith

  -- what was learnt stands before
  pub learnt_before : (p : P) (es : List (Event A B)) (n : ℕ) → count p ≡ 0 → Legal legal next p es → Stands (learn n) (twos es) → n ≤ length (ones es)
  learnt_before p es n none l s =
      let cut = split_at es s.before (learn n) s.behind s.whole in
      let at = legal_at legal next p cut.before (two (learn n)) cut.behind (subst (Legal legal next p) cut.whole l) in
      let low = learns (point_after legal next p cut.before) n at.1 in
      let is = counted p cut.before in
      let long : length (ones es) ≡ length (ones cut.before) + length (ones cut.behind) =
      ap (λ z. length (ones z)) cut.whole ∙ ap length (ones_append cut.before (two (learn n) ∷ cut.behind)) ∙ length-append (ones cut.before) (ones cut.behind) in
      omega arith

  -- an event of the second party sees a front of the first one's list, with all that was learnt
  pub sees_first : (p : P) (xs : List A) (before behind : List B) (b : B) (Shows : List A → Type 0) → count p ≡ 0 → HasOrder legal next p xs (before ++ b ∷ behind)
      → ((es : List (Event A B)) → legal (point_after legal next p es) (two b) → Shows (ones es)) → Sees xs (λ n. Stands (learn n) before) Shows
  sees_first p xs before behind b Shows none h shows =
      let cut = split_at h.order before b behind h.of_two in
      let at = legal_at legal next p cut.before (two b) cut.behind (subst (Legal legal next p) cut.whole h.is_legal) in
      record {
        front = ones cut.before;
        rest = ones cut.behind;
        whole = sym h.of_one ∙ ap ones cut.whole ∙ ones_append cut.before (two b ∷ cut.behind);
        learnt = λ n s. learnt_before p cut.before n none at.0 (subst (Stands (learn n)) (sym cut.first) s);
        shows = shows cut.before at.1;
      }
