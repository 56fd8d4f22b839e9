-- A loop that changes each element of a list in place: the step for one element more.
use Rattle.std.proofs.Common.{◌≡◌, ℕ, zero, suc, ◌+◌, List, [], ◌∷◌, ◌++◌, take, drop, map, slice_get, slice_set, Some, ap, sym, ◌∙◌, arith}
use Rattle.af_session.proofs.Common.{none-some, same_Some}

set_next : {X : Type 0} (f : X → X) (xs : List X) (i : ℕ) (x : X) → slice_get (map f (take i xs) ++ drop i xs) i ≡ Some x → slice_set (map f (take i xs) ++ drop i xs) i (f x) ≡ map f (take (suc i) xs) ++ drop (suc i) xs
set_next f [] zero x is = absurd (none-some x is)
set_next f [] (suc i) x is = absurd (none-some x is)
set_next f (y ∷ ys) zero x is = ap (λ z. f z ∷ ys) (sym (same_Some y x is))
set_next f (y ∷ ys) (suc i) x is = ap (λ zs. f y ∷ zs) (set_next f ys i x is)

pub map_more : {X : Type 0} (f : X → X) (xs ys : List X) (i : ℕ) (x : X) → ys ≡ map f (take i xs) ++ drop i xs → slice_get ys i ≡ Some x → slice_set ys i (f x) ≡ map f (take (i + 1) xs) ++ drop (i + 1) xs
map_more f xs ys i x was is =
    let next : suc i ≡ i + 1 = omega arith in
    ap (λ zs. slice_set zs i (f x)) was
    ∙ set_next f xs i x (ap (λ zs. slice_get zs i) (sym was) ∙ is)
    ∙ ap (λ (n : ℕ). map f (take n xs) ++ drop n xs) next
