-- Lists of held slots, as the calls find them.
use Rattle.std.proofs.Common.{◌≡◌, ℕ, ◌+◌, ◌%◌, List, [], ◌∷◌, ◌++◌, ap, sym, ◌∙◌, arith, append_assoc}
use Rattle.af_stateq.proofs.Common.{AreOf, FastState, FitAt, append-nil, rest, turned}
use Rattle.std.proofs.Common.{Option, subst}
use Rattle.af_stateq.specs.declared.cell.Slot.{Slot}
use Rattle.af_stateq.specs.Shelved.{cell, shelves}

module _ {S : Type 0} where
  -- a list that begins with p begins with p
  pub headed : (cs l : List (ℕ × S)) (p : ℕ × S) → cs ≡ p ∷ l → cs ≡ p ∷ rest cs
  headed cs l p e = e ∙ ap (λ z. p ∷ z) (sym (ap rest e))

  pub tail_is : (cs l : List (ℕ × S)) (p q : ℕ × S) → cs ≡ p ∷ l → q ∷ rest cs ≡ q ∷ l
  tail_is cs l p q e = ap (λ z. q ∷ rest z) e

  -- the same with nothing behind
  pub tail_alone : (cs l : List (ℕ × S)) (p q : ℕ × S) → cs ≡ p ∷ l → q ∷ rest cs ≡ q ∷ l ++ []
  tail_alone cs l p q e = tail_is cs l p q e ∙ ap (λ z. q ∷ z) (sym (append-nil l))

  pub numbered : (cs l : List (ℕ × S)) (j k : ℕ) (x : S) → j ≡ k → cs ≡ (j, x) ∷ l → cs ≡ (k, x) ∷ l
  numbered cs l j k x e f = f ∙ ap (λ z. (z, x) ∷ l) e

pub this_cell : (n : ℕ) → cell (n + 1) ≡ n % 4
this_cell n = omega arith

pub next_cell : (n : ℕ) → cell (n + 2) ≡ cell (n + 1 + 1)
next_cell n = omega arith

module _ {P : Type 0} where
  pub are_moved : (x y x' y' : FastState) (js is : List (Option P)) → x ≡ x' → y ≡ y' → js ≡ is → AreOf x y is → AreOf x' y' js
  are_moved x y x' y' js is a b e h = subst (λ (q : FastState × FastState × List (Option P)). AreOf q.0 q.1 q.2) (λ i. (a i, b i, sym e i)) h

module _ {P K : Type 0} where
  pub fit_moved : (fits : K → ℕ → P → Type 0) (key key' : Option K) (x x' : FastState) (js is : List (Option P)) → key ≡ key' → x ≡ x' → js ≡ is → FitAt fits key x is → FitAt fits key' x' js
  fit_moved fits key key' x x' js is a b e h = subst (λ (q : Option K × FastState × List (Option P)). FitAt fits q.0 q.1 q.2) (λ i. (a i, b i, sym e i)) h

pub fourth_cell : (n : ℕ) → cell n ≡ cell (n + 1 + 3)
fourth_cell n = omega arith

module _ {P : Type 0} where
  -- a mutator that holds the shelves turns its cell behind them
  pub cell_behind : (n : ℕ) (cs out : List (ℕ × Slot P)) (x : Slot P) (ys : List (Slot P)) → cs ≡ (cell (n + 1), x) ∷ shelves ys → out ≡ turned cs → out ≡ shelves ys ++ (n % 4, x) ∷ []
  cell_behind n cs out x ys e f = f ∙ ap turned e ∙ ap (λ k. shelves ys ++ (k, x) ∷ []) (this_cell n)

  -- an observer that holds the shelves turns its three cells behind them
  pub cells_behind : (cs one two three : List (ℕ × Slot P)) (p q r : ℕ × Slot P) (ys : List (Slot P)) → cs ≡ p ∷ q ∷ r ∷ shelves ys → one ≡ turned cs → two ≡ turned one → three ≡ turned two → three ≡ shelves ys ++ p ∷ q ∷ r ∷ []
  cells_behind cs one two three p q r ys e f g h = h ∙ ap turned (g ∙ ap turned (f ∙ ap turned e)) ∙ append_assoc (shelves ys ++ p ∷ []) (q ∷ []) (r ∷ []) ∙ append_assoc (shelves ys) (p ∷ []) (q ∷ r ∷ [])

  -- and then two of them behind the shelves again, so that the third comes first
  pub third_first : (cs one two : List (ℕ × Slot P)) (p q r : ℕ × Slot P) (ys : List (Slot P)) → cs ≡ (p ∷ q ∷ r ∷ []) ++ shelves ys → one ≡ turned cs → two ≡ turned one → two ≡ r ∷ shelves ys ++ p ∷ q ∷ []
  third_first cs one two p q r ys e f g = g ∙ ap turned (f ∙ ap turned e) ∙ ap (λ l. r ∷ l) (append_assoc (shelves ys) (p ∷ []) (q ∷ []))
