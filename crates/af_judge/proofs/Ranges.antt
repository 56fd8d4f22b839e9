-- A test over the numbers of a range, with one more.
use Rattle.std.proofs.Common.{◌≡◌, ℕ, zero, suc, ◌+◌, ◌||◌, Bool, ap, ◌∙◌, arith}
use Rattle.af_judge.proofs.Common.{list_any, or_assoc, or_false, range_with_len}

any_next : (p : ℕ → Bool) (a n : ℕ) → list_any p (range_with_len a (suc n)) ≡ (list_any p (range_with_len a n) || p (a + n))
any_next p a zero = or_false (p a) ∙ ap p (let e : a ≡ a + 0 = omega arith in e)
any_next p a (suc n) =
    ap (λ b. p a || b) (any_next p (a + 1) n)
    ∙ (or_assoc (p a) (list_any p (range_with_len (a + 1) n)) (p (a + 1 + n))
    ∙ ap (λ k. (p a || list_any p (range_with_len (a + 1) n)) || p k) (let e : a + 1 + n ≡ a + suc n = omega arith in e))

pub any_more : (p : ℕ → Bool) (n : ℕ) → list_any p (range_with_len 0 (n + 1)) ≡ (list_any p (range_with_len 0 n) || p n)
any_more p n =
    ap (λ k. list_any p (range_with_len 0 k)) (let e : n + 1 ≡ suc n = omega arith in e)
    ∙ (any_next p 0 n ∙ ap (λ k. list_any p (range_with_len 0 n) || p k) (let e : 0 + n ≡ n = omega arith in e))
