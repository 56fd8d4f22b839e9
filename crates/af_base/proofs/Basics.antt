-- Basic lemmas on Booleans, tests of numbers, options and lists, which many proofs cite.
use Rattle.std.proofs.Common.{Bool, Err, IfOk, List, MatchBool, None, Ok, Option, Result, Some, [], ap, arith, bit_and, bit_or, cond, false, get_or, if◌then◌else◌, inl, inr, is_some, length, lit<, map, max, nat_lt, refl, slice_set, subst, suc, sym, take, true, true≢false, unwrap_or, w32, zero, ℕ, ℤ, ⊎_elim, ◌&&◌, ◌*◌, ◌++◌, ◌+◌, ◌-◌, ◌/◌, ◌<◌, ◌==◌, ◌^◌, ◌||◌, ◌∙◌, ◌∷◌, ◌≡◌, ◌≢◌, ◌≤◌, ◌⊎◌}
use Rattle.std.proofs.Math.Facts.{Fits-of_z}
use Rattle.std.proofs.Math.Nat.{pow-le-pow_right, pow-succ'}
use Rattle.std.proofs.lemmas.Bool.Decides.{nat_tests}
use Rattle.std.proofs.lemmas.Bool.{cases_lt}
use Rattle.std.proofs.lemmas.List.{take_more}
use Rattle.std.proofs.lemmas.Nat.Bits.{bit_at-lt, bit_at-pow_other, bit_at-pow_same, bit_at_clear_other, bit_at_clear_same, bit_at_or}
use Rattle.std.proofs.lemmas.Nat.{one_shl}
use Rattle.std.proofs.lemmas.Option.{get_or_from_slice_get, slice_get_cases, slice_get_within}
use Rattle.std.specs.Int.{bit_at, byte_at, cast_unsigned, w16}
use Rattle.std.specs.List.{All, AllZip, range_with_len, slice_get}
use Rattle.std.specs.Prelude.{FitsSigned, nat_le}

pub all_more : (Holds : ℕ → Type 0) (n : ℕ) → ((i : ℕ) → i < n → Holds i) → Holds n → (i : ℕ) → i < n + 1 → Holds i
all_more Holds n all h i lt = elim (at_or i n lt) [ inl less ↦ all i less | inr same ↦ subst Holds (sym same) h ]
  where
    at_or : (i n : ℕ) → i < n + 1 → (i < n) ⊎ (i ≡ n)
    at_or i n lt = grind (arith, lt)

pub all_one : {X : Type 0} (P : X → Type 0) (x : X) → P x → All P (x ∷ [])
all_one P x p zero d h = p
all_one P x p (suc k) d h = absurd (omega arith)

pub and_false : (b : Bool) → (b && false) ≡ false
and_false true = refl
and_false false = refl

pub and_none : (a b : Bool) → b ≡ false → (a && b) ≡ false
and_none true b is = is
and_none false b is = refl

pub and_off : (a b c : Bool) → b ≡ false → ((a && b) && c) ≡ false
and_off true b c off = ap (λ (d : Bool). d && c) off
and_off false b c off = refl

pub and_true : (b : Bool) → (b && true) ≡ b
and_true true = refl
and_true false = refl

pub at_before : {X : Type 0} (xs ys : List X) (i : ℕ) (x : X) → slice_get xs i ≡ Some x → slice_get (xs ++ ys) i ≡ Some x
at_before [] ys i x e = cc
at_before (z ∷ xs) ys zero x e = e
at_before (z ∷ xs) ys (suc i) x e = at_before xs ys i x e

pub at_last : {A : Type 0} (xs : List A) (a : A) (n : ℕ) → length xs ≡ n → slice_get (xs ++ a ∷ []) n ≡ Some a
at_last [] a zero e = refl
at_last [] a (suc n) e = absurd (omega arith)
at_last (x ∷ xs) a zero e = absurd (omega arith)
at_last (x ∷ xs) a (suc n) e = at_last xs a n (omega arith)

pub at_seam : {X : Type 0} (xs : List X) (x : X) (ys : List X) → slice_get (xs ++ x ∷ ys) (length xs) ≡ Some x
at_seam [] x ys = refl
at_seam (z ∷ xs) x ys = at_seam xs x ys

pub below_is : (a b : ℕ) → nat_lt a b ≡ true → a < b
below_is a b h = search (arith, h)

pub below_or_at : (i n : ℕ) → i < n + 1 → (i < n) ⊎ (i ≡ n)
below_or_at i n h = grind arith

pub below_or_not : (a b : ℕ) → (a < b) ⊎ (b ≤ a)
below_or_not a b = by (nat_lt a b) refl
  where
    by : (x : Bool) → nat_lt a b ≡ x → (a < b) ⊎ (b ≤ a)
    by true e = inl (search (arith, e))
    by false e = inr (search (arith, e))

pub beyond_is : (k n : ℕ) → nat_le k n ≡ false → n < k
beyond_is k n h = grind (arith, nat_tests, h)

pub both : (a b : Bool) → (a && b) ≡ true → (a ≡ true) × (b ≡ true)
both true b h = (refl, h)
both false b h = cc

pub both_true : (a b : Bool) → a ≡ true → b ≡ true → (a && b) ≡ true
both_true true b x y = y
both_true false b x y = x

pub by_bool : (b : Bool) (P Q R : Type 0) → (P → R) → (Q → R) → MatchBool b P Q → R
by_bool true P Q R f g m = f m
by_bool false P Q R f g m = g m

pub by_false : (A B : Type 0) (b : Bool) → b ≡ false → MatchBool b A B → B
by_false A B true e m = absurd (true≢false e)
by_false A B false e m = m

pub by_test : {A : Type 0} (P : A → Type 0) (b : Bool) (x y : A) → (b ≡ true → P x) → (b ≡ false → P y) → P (if b then x else y)
by_test P true x y f g = f refl
by_test P false x y f g = g refl

pub byte_small : (w k : ℕ) → byte_at k w < 256
byte_small w zero = omega arith
byte_small w (suc k) = grind arith

pub clear_other : (n k i : ℕ) → k < 32 → i < 32 → i ≢ k → bit_at (bit_and n (2 ^ 32 - 1 - 2 ^ k)) i ≡ bit_at n i
clear_other n k i lt li ne = subst (λ m. bit_at (bit_and n (2 ^ 32 - 1 - m)) i ≡ bit_at n i) (one_shl k 32 lt) (bit_at_clear_other w32 n k lt i li ne)

pub clear_same : (n k : ℕ) → k < 32 → bit_at (bit_and n (2 ^ 32 - 1 - 2 ^ k)) k ≡ 0
clear_same n k lt = subst (λ m. bit_at (bit_and n (2 ^ 32 - 1 - m)) k ≡ 0) (one_shl k 32 lt) (bit_at_clear_same w32 n k lt)

pub either : (a b : Bool) → (a || b) ≡ true → (a ≡ true) ⊎ (b ≡ true)
either true b e = inl refl
either false b e = inr e

pub either_false : (b x y : Bool) → x ≡ false → y ≡ false → (if b then x else y) ≡ false
either_false true x y f g = f
either_false false x y f g = g

pub either_none : (b : Bool) (o : Option (ℕ × ℕ)) → o ≡ None → (if b then None else o) ≡ None
either_none true o is = refl
either_none false o is = is

pub equal_is : (n k : ℕ) → (n == k) ≡ true → n ≡ k
equal_is n k e = grind arith

pub equal_turned : (n k : ℕ) → (n == k) ≡ true → (k == n) ≡ true
equal_turned n k e = grind arith

pub few : (z : ℤ) → FitsSigned w16 z → cast_unsigned w16 z < 65536
few z f = (Fits-of_z f).fits

pub few_or_two : (n : ℕ) → (n ≤ 1) ⊎ (2 ≤ n)
few_or_two zero = inl (omega arith)
few_or_two (suc zero) = inl (omega arith)
few_or_two (suc (suc n)) = inr (omega arith)

pub four : {a b d e f g h i : ℤ} → a ≡ b → d ≡ e → f ≡ g → h ≡ i → a ∷ d ∷ f ∷ h ∷ [] ≡ b ∷ e ∷ g ∷ i ∷ []
four p q r s = cc

pub get_front : (xs more : List ℕ) (n w : ℕ) → slice_get xs n ≡ Some w → slice_get (xs ++ more) n ≡ Some w
get_front [] more n w is = absurd (let e = is in let x : ⊥ = cc in x)
get_front (x ∷ xs) more zero w is = is
get_front (x ∷ xs) more (suc n) w is = get_front xs more n w is

pub get_set_other : {A : Type 0} (xs : List A) (i k : ℕ) (a : A) → k ≢ i → slice_get (slice_set xs i a) k ≡ slice_get xs k
get_set_other [] i k a ne = refl
get_set_other (x ∷ xs) zero zero a ne = absurd (ne refl)
get_set_other (x ∷ xs) zero (suc k) a ne = refl
get_set_other (x ∷ xs) (suc i) zero a ne = refl
get_set_other (x ∷ xs) (suc i) (suc k) a ne = get_set_other xs i k a (λ e. ne (ap suc e))

pub get_set_same : {A : Type 0} (xs : List A) (i : ℕ) (a : A) → i < length xs → slice_get (slice_set xs i a) i ≡ Some a
get_set_same [] i a lt = absurd (omega arith)
get_set_same (x ∷ xs) zero a lt = refl
get_set_same (x ∷ xs) (suc i) a lt = get_set_same xs i a (omega arith)

pub half : (k : ℕ) → 2 ^ suc k / 2 ≡ 2 ^ k
half k = let twice : 2 ^ suc k ≡ 2 * 2 ^ k = pow-succ' 2 k in omega (arith, twice)

pub is_below : (a b : ℕ) → a < b → nat_lt a b ≡ true
is_below a b lt = search arith

pub is_beyond : (a b : ℕ) → b < a → nat_le a b ≡ false
is_beyond a b lt = search arith

pub is_equal : (n k : ℕ) → n ≡ k → (n == k) ≡ true
is_equal n k e = grind arith

pub is_not_below : (a b : ℕ) → b ≤ a → nat_lt a b ≡ false
is_not_below a b le = search arith

pub is_within : (a b : ℕ) → a ≤ b → nat_le a b ≡ true
is_within a b le = search arith

pub itself : (n : ℕ) → (n == n) ≡ true
itself n = grind (arith, nat_tests)

pub le-power : (j k : ℕ) → j ≤ k → 2 ^ j ≤ 2 ^ k
le-power j k le = pow-le-pow_right (omega arith) le

pub less_differs : (k n : ℕ) → k < n → (k == n) ≡ false
less_differs k n h = grind arith

pub map_last : {X Y : Type 0} (f : X → Y) (xs : List X) (x : X) → map f (xs ++ x ∷ []) ≡ map f xs ++ f x ∷ []
map_last f [] x = refl
map_last f (y ∷ ys) x = ap (λ l. f y ∷ l) (map_last f ys x)

pub max_le : (a b i : ℕ) → a ≤ i → b ≤ i → max a b ≤ i
max_le a b i h k = omega arith

pub neither : (a b : Bool) → (a || b) ≡ false → (a ≡ false) × (b ≡ false)
neither true b e = cc
neither false b e = (refl, e)

pub neither_is : (a b : Bool) → a ≡ false → b ≡ false → (a || b) ≡ false
neither_is true b h g = absurd (true≢false h)
neither_is false b h g = g

pub never_false : (b : Bool) → (b ≡ false → ⊥) → b ≡ true
never_false true f = refl
never_false false f = absurd (f refl)

pub never_true : (b : Bool) → (b ≡ true → ⊥) → b ≡ false
never_true true f = absurd (f refl)
never_true false f = refl

pub no : {A : Type 0} → false ≡ true → A
no h = absurd (true≢false (sym h))

pub no_items : {X : Type 0} (xs : List X) → length xs ≡ 0 → xs ≡ []
no_items [] e = refl
no_items (x ∷ xs) e = absurd (omega arith)

pub none_and : (a b : Bool) → a ≡ false → (a && b) ≡ false
none_and true b h = absurd (true≢false h)
none_and false b h = refl

pub none_more : (n : ℕ) → n ≡ n + 0
none_more n = omega arith

pub none_of : (o : Option ℕ) → is_some o ≡ false → o ≡ None
none_of None e = refl
none_of (Some n) e = cc

pub none_some : {X A : Type 0} (x : X) → None ≡ Some x → A
none_some x e = absurd (true≢false (ap (λ (z : Option _). elim z as (λ _. Bool) [ None ↦ true | Some y ↦ false ]) e))

pub not_below_is : (a b : ℕ) → nat_lt a b ≡ false → b ≤ a
not_below_is a b h = grind (arith, nat_tests)

pub not_both : (b : Bool) → b ≡ true → b ≡ false → ⊥
not_both b e f = true≢false (sym e ∙ f)

pub not_first : {A : Type 0} (b : Bool) (r : Option A) (y : A) → cond b None r ≡ Some y → (b ≡ false) × (r ≡ Some y)
not_first true r y e = cc
not_first false r y e = (refl, e)

pub not_none : (n : ℕ) → (suc n == 0) ≡ false
not_none n = grind (arith, nat_tests)

pub not_zero : (n : ℕ) → 1 ≤ n → (n == 0) ≡ false
not_zero n some = search arith

pub on_ok : {V E : Type 0} (P Q : V → Type 0) (r : Result V E) → ((v : V) → P v → Q v) → IfOk r P → IfOk r Q
on_ok P Q (Ok v) f h = f v h
on_ok P Q (Err e) f h = tt

pub or_assoc : (a b c : Bool) → (a || (b || c)) ≡ ((a || b) || c)
or_assoc true b c = refl
or_assoc false b c = refl

pub or_both : (x y z : Bool) → ((x || y) || z) ≡ (x || (y || z))
or_both true y z = refl
or_both false y z = refl

pub or_false : (a : Bool) → (a || false) ≡ a
or_false true = refl
or_false false = refl

pub or_nothing : (b d : Bool) → d ≡ false → (b || d) ≡ b
or_nothing true d e = refl
or_nothing false d e = e

pub or_right : (x y : Bool) → y ≡ true → (x || y) ≡ true
or_right true y e = refl
or_right false y e = e

pub or_true : (b : Bool) → (b || true) ≡ true
or_true true = refl
or_true false = refl

pub positive_is : (d : ℕ) → (d == 0) ≡ false → 0 < d
positive_is d h = grind (arith, nat_tests)

pub positive_not_zero : (i : ℕ) → 0 < i → (i == 0) ≡ false
positive_not_zero i some = grind (arith, nat_tests)

pub range_end : (a n : ℕ) → range_with_len a (suc n) ≡ range_with_len a n ++ (a + n) ∷ []
range_end a zero = ap (λ (k : ℕ). k ∷ []) (omega arith)
range_end a (suc n) = ap (λ (ks : List ℕ). a ∷ ks) (range_end (a + 1) n) ∙ ap (λ (k : ℕ). a ∷ range_with_len (a + 1) n ++ k ∷ []) (omega arith)

pub rest_enters : (a b c : Bool) → c ≡ false → (a && (b && c)) ≡ false
rest_enters true true c e = e
rest_enters true false c e = refl
rest_enters false b c e = refl

pub same_slot : (x w : ℕ) → Some x ≡ Some w → x ≡ w
same_slot x w e = ap (λ (o : Option ℕ). unwrap_or o x) e

pub set_other : (n k i : ℕ) → i ≢ k → bit_at (bit_or n (2 ^ k)) i ≡ bit_at n i
set_other n k i ne = let a = bit_at_or n (2 ^ k) i in let b = bit_at-pow_other k i ne in omega arith

pub set_same : (n k : ℕ) → bit_at (bit_or n (2 ^ k)) k ≡ 1
set_same n k = let a = bit_at_or n (2 ^ k) k in let b = bit_at-pow_same k in let c = bit_at-lt n k in omega arith

pub small : (p q r s : ℕ) → p < 256 → q < 256 → r < 256 → s < 256 → (i : ℕ) → get_or (p ∷ q ∷ r ∷ s ∷ []) i 0 < 256
small p q r s a b c d zero = a
small p q r s a b c d (suc zero) = b
small p q r s a b c d (suc (suc zero)) = c
small p q r s a b c d (suc (suc (suc zero))) = d
small p q r s a b c d (suc (suc (suc (suc i)))) = lit< tt

pub some_at : {X : Type 0} (xs : List X) (i : ℕ) → i < length xs → (x : X) × (slice_get xs i ≡ Some x)
some_at xs i lt = ⊎_elim (λ h. (h.0, h.2)) (λ h. absurd (omega (arith, lt, h.0))) (slice_get_cases xs i).1

pub some_is : (n : ℕ) → (n == 0) ≡ false → 1 ≤ n
some_is n e = grind (arith, nat_tests)

pub some_same : {A : Type 0} (a b : A) → Some a ≡ Some b → a ≡ b
some_same a b e = cc

pub take_most : (n : ℕ) (xs : List ℕ) → length (take n xs) ≤ length xs
take_most zero xs = omega arith
take_most (suc n) [] = omega arith
take_most (suc n) (x ∷ xs) = let l = take_most n xs in omega arith

pub take_step : {A : Type 0} (xs : List A) (i : ℕ) (a : A) → slice_get xs i ≡ Some a → take (i + 1) xs ≡ take i xs ++ a ∷ []
take_step xs i a is = take_more xs i a (slice_get_within xs i a is) ∙ ap (λ x. take i xs ++ x ∷ []) (get_or_from_slice_get xs i a a is)

pub three : (a b c : Bool) → ((a && b) && c) ≡ true → (a ≡ true) × (b ≡ true) × (c ≡ true)
three true true true e = (refl, refl, refl)
three true true false e = absurd (true≢false (sym e))
three true false c e = absurd (true≢false (sym e))
three false b c e = absurd (true≢false (sym e))

pub true_or_false : (b : Bool) → (b ≡ true) ⊎ (b ≡ false)
true_or_false true = inl refl
true_or_false false = inr refl

pub within_is : (a b : ℕ) → nat_le a b ≡ true → a ≤ b
within_is a b h = grind (arith, nat_tests)

pub within_or_beyond : (a b : ℕ) → (a ≤ b) ⊎ (b < a)
within_or_beyond a b = by_order (cases_lt b a)
  where
    by_order : (b < a) ⊎ (a ≤ b) → (a ≤ b) ⊎ (b < a)
    by_order (inl h) = inr h
    by_order (inr h) = inl h

pub zero_is : (n : ℕ) → (n == 0) ≡ true → n ≡ 0
zero_is n e = grind arith

pub zip_long : {X : Type 0} (R : X → X → Type 0) (xs ys : List X) → AllZip R xs ys → length ys ≡ length xs
zip_long R [] [] z = refl
zip_long R [] (y ∷ ys) z = absurd z
zip_long R (x ∷ xs) [] z = absurd z
zip_long R (x ∷ xs) (y ∷ ys) z = ap suc (zip_long R xs ys z.1)
