-- A number is read from a word exactly if the word is the number in decimal.
use Rattle.std.proofs.Common.{◌≡◌, ℕ, ◌+◌, ◌*◌, ◌/◌, ◌%◌, ◌<◌, ◌^◌, List, [], ◌∷◌, ◌++◌, Option, Some, None, Bool, true, false, ◌==◌, if◌then◌else◌, cond, refl, ap, ◌∙◌, sym, subst, arith, append_assoc, append-nil}
use Rattle.af_journal.proofs.Common.{decimal, decimal_by_steps, decimal_digit, decimal_step, nat_tests, option_and_then, option_and_then_some, positive_is, same_Some}
use Rattle.af_journal.specs.Digits.{digit_at, fitting, digits_on, after_digit, number_at}

-- a digit, and what it stands for
pub digit-some : (c d : ℕ) → digit_at c ≡ Some d → (c ≡ 48 + d) × (d < 10)
digit-some c d e = grind (arith, nat_tests)

pub digit-is : (d : ℕ) → d < 10 → digit_at (48 + d) ≡ Some d
digit-is d h = grind (arith, nat_tests)

pub fitting-some : (n m : ℕ) → fitting n ≡ Some m → (n ≡ m) × (n < 2 ^ 64)
fitting-some n m e = grind (arith, nat_tests)

pub fitting-is : (n : ℕ) → n < 2 ^ 64 → fitting n ≡ Some n
fitting-is n h = grind (arith, nat_tests)

not_first : (b : Bool) (o : Option ℕ) (n : ℕ) → cond b None o ≡ Some n → (b ≡ false) × (o ≡ Some n)
not_first true o n e = cc
not_first false o n e = (refl, e)

not_zero : (d : ℕ) (o : Option ℕ) (n : ℕ) → (if d == 0 then None else o) ≡ Some n → (0 < d) × (o ≡ Some n)
not_zero d o n e =
    let both = not_first (d == 0) o n e in (positive_is d both.0, both.1)

zero_not : (d : ℕ) (o : Option ℕ) → 0 < d → (if d == 0 then None else o) ≡ o
zero_not d o h = let f : (d == 0) ≡ false = grind (arith, nat_tests) in ap (λ b. cond b None o) f

-- one digit more
pub decimal-more : (v d : ℕ) → 0 < v → d < 10 → v * 10 + d < 2 ^ 64 → decimal (v * 10 + d) ≡ decimal v ++ (48 + d) ∷ []
decimal-more v d p h fits =
    let q : (v * 10 + d) / 10 ≡ v = grind arith in
    let r : (v * 10 + d) % 10 ≡ d = grind arith in
    decimal_step (v * 10 + d) (omega arith) fits ∙ rw (q, r) refl

pub digits_on-sound : (cs : List ℕ) (v n : ℕ) → 0 < v → digits_on v cs ≡ Some n → decimal v ++ cs ≡ decimal n
digits_on-sound [] v n p e = append-nil _ ∙ ap decimal (same_Some _ _ e)
digits_on-sound (c ∷ cs) v n p e =
    option_and_then_some (λ d. option_and_then (λ n. digits_on n cs) (fitting (v * 10 + d))) (digit_at c) n e
    (λ d is f. option_and_then_some (λ n. digits_on n cs) (fitting (v * 10 + d)) n f
    (λ w fits g.
    let a = digit-some c d is in
    let b = fitting-some (v * 10 + d) w fits in
    let rest : decimal (v * 10 + d) ++ cs ≡ decimal n = digits_on-sound cs (v * 10 + d) n (omega arith) (ap (λ n. digits_on n cs) b.0 ∙ g) in
    ap (λ x. decimal v ++ x ∷ cs) a.0 ∙ (sym (append_assoc (decimal v) ((48 + d) ∷ []) cs) ∙ (ap (λ xs. xs ++ cs) (sym (decimal-more v d p a.1 b.1)) ∙ rest))))

pub number_at-sound : (word : List ℕ) (n : ℕ) → number_at word ≡ Some n → word ≡ decimal n
number_at-sound [] n e = cc
number_at-sound (c ∷ []) n e =
    option_and_then_some (after_digit []) (digit_at c) n e
    (λ d is f.
    let a = digit-some c d is in
    let same : d ≡ n = same_Some _ _ f in
    ap (λ x. x ∷ []) a.0 ∙ (sym (decimal_digit d a.1) ∙ ap decimal same))
number_at-sound (c ∷ b ∷ cs) n e =
    option_and_then_some (after_digit (b ∷ cs)) (digit_at c) n e
    (λ d is f.
    let a = digit-some c d is in
    let g = not_zero d (digits_on d (b ∷ cs)) n f in
    ap (λ x. x ∷ b ∷ cs) a.0 ∙ (ap (λ xs. xs ++ b ∷ cs) (sym (decimal_digit d a.1)) ∙ digits_on-sound (b ∷ cs) d n g.0 g.1))

digits_on-push : (cs : List ℕ) (v w d : ℕ) → digits_on v cs ≡ Some w → d < 10 → w * 10 + d < 2 ^ 64
    → digits_on v (cs ++ (48 + d) ∷ []) ≡ Some (w * 10 + d)
digits_on-push [] v w d e h fits =
    let same : v ≡ w = same_Some _ _ e in
    ap (option_and_then (λ d. option_and_then (λ n. digits_on n []) (fitting (v * 10 + d)))) (digit-is d h)
    ∙ (ap (λ u. option_and_then (λ n. digits_on n []) (fitting (u * 10 + d))) same ∙ ap (option_and_then (λ n. digits_on n [])) (fitting-is (w * 10 + d) fits))
digits_on-push (c ∷ cs) v w d e h fits =
    option_and_then_some (λ d. option_and_then (λ n. digits_on n cs) (fitting (v * 10 + d))) (digit_at c) w e
    (λ b is f. option_and_then_some (λ n. digits_on n cs) (fitting (v * 10 + b)) w f
    (λ u at g.
    ap (option_and_then (λ b. option_and_then (λ n. digits_on n (cs ++ (48 + d) ∷ [])) (fitting (v * 10 + b)))) is
    ∙ (ap (option_and_then (λ n. digits_on n (cs ++ (48 + d) ∷ []))) at ∙ digits_on-push cs u w d g h fits)))

number_at-push : (word : List ℕ) (w d : ℕ) → number_at word ≡ Some w → 0 < w → d < 10 → w * 10 + d < 2 ^ 64
    → number_at (word ++ (48 + d) ∷ []) ≡ Some (w * 10 + d)
number_at-push [] w d e p h fits = cc
number_at-push (c ∷ []) w d e p h fits =
    option_and_then_some (after_digit []) (digit_at c) w e
    (λ b is f.
    let same : b ≡ w = same_Some _ _ f in
    ap (option_and_then (after_digit ((48 + d) ∷ []))) is
    ∙ (zero_not b (digits_on b ((48 + d) ∷ [])) (omega arith) ∙ digits_on-push [] b w d f h fits))
number_at-push (c ∷ x ∷ xs) w d e p h fits =
    option_and_then_some (after_digit (x ∷ xs)) (digit_at c) w e
    (λ b is f.
    let g = not_zero b (digits_on b (x ∷ xs)) w f in
    ap (option_and_then (after_digit (x ∷ xs ++ (48 + d) ∷ []))) is
    ∙ (zero_not b (digits_on b (x ∷ xs ++ (48 + d) ∷ [])) g.0 ∙ digits_on-push (x ∷ xs) b w d g.1 h fits))

pub number_at-decimal : (n : ℕ) → n < 2 ^ 64 → number_at (decimal n) ≡ Some n
number_at-decimal n fits =
    decimal_by_steps (λ n ds. n < 2 ^ 64 → number_at ds ≡ Some n)
    (λ n h f. ap (option_and_then (after_digit [])) (digit-is n h))
    (λ n ds h r f.
    let split : n / 10 * 10 + n % 10 ≡ n = omega arith in
    subst (λ m. number_at (ds ++ (48 + n % 10) ∷ []) ≡ Some m) split
    (number_at-push ds (n / 10) (n % 10) (r (omega arith)) (omega arith) (omega arith) (omega arith)))
    n fits fits
