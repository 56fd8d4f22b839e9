-- Cases of what a test or an option decides.
use Rattle.std.proofs.Common.{◌≡◌, ◌≢◌, ◌==◌, length, true≢false, Bool, true, false, MatchBool, Option, Some, None, MatchOption, List, [], ◌∷◌, refl, sym, ◌∙◌, ◌≤◌, subst, arith}
use Rattle.af_normal.proofs.Common.{eq-eqb, eqb-true}

pub by_item : {A : Type 0} (o : Option A) (P : Type 0) (Q : A → Type 0) (R : Type 0) → (P → R) → ((a : A) → Q a → R) → MatchOption o P Q → R
by_item None P Q R f g m = f m
by_item (Some a) P Q R f g m = g a m

pub on_true : (b : Bool) (P Q : Type 0) → b ≡ true → P → MatchBool b P Q
on_true b P Q e p = subst (λ (x : Bool). MatchBool x P Q) (sym e) p

pub on_false : (b : Bool) (P Q : Type 0) → b ≡ false → Q → MatchBool b P Q
on_false b P Q e q = subst (λ (x : Bool). MatchBool x P Q) (sym e) q

pub where_true : (b : Bool) (P R Q : Type 0) → (P → R) → MatchBool b P Q → MatchBool b R Q
where_true true P R Q f m = f m
where_true false P R Q f m = m

pub none_of_zero : {A : Type 0} (xs : List A) → (length xs == 0) ≡ true → xs ≡ []
none_of_zero [] e = refl
none_of_zero (x ∷ xs) e = absurd (omega (arith, eqb-true (length (x ∷ xs)) 0 e))

pub some_of_other : {A : Type 0} (xs : List A) → (length xs == 0) ≡ false → 1 ≤ length xs
some_of_other [] e = absurd (true≢false (sym (eq-eqb 0 0 refl) ∙ e))
some_of_other (x ∷ xs) e = omega arith
