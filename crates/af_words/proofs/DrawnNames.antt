-- Names of files that are drawn, and others.
use Rattle.std.proofs.Common.{◌≡◌, ◌∙◌, ℕ, zero, suc, ◌+◌, ◌<◌, ◌≤◌, ◌||◌, ◌&&◌, not, nat_le, Bool, true, false, List, Option, Some, None, IfSome, cond, option_map, unwrap_or, refl, sym, ap, arith, add-one}
use Rattle.std.specs.List.{list_any, range_with_len}
use Rattle.std.specs.Str.{bytes_eq}
use Rattle.std.proofs.lemmas.Bool.{leb-true, leb-false}
use Rattle.af_base.proofs.Basics.{neither, neither_is, or_right}
use Rattle.af_script.specs.Text.{is_name}
use Rattle.af_words.specs.Requests.{is_drawn, two_names}

-- a test that holds of a number in a range holds of one of the range
pub any_found : (test : ℕ → Bool) (i from count : ℕ) → test i ≡ true → from ≤ i → i < from + count → list_any test (range_with_len from count) ≡ true
any_found test i from zero is le lt = absurd (omega arith)
any_found test i from (suc count) is le lt = go (nat_le i from) refl (λ more. any_found test i (from + 1) count is (omega (arith, more)) (omega (arith, lt)))
  where
    go : (b : Bool) → nat_le i from ≡ b → (from < i → list_any test (range_with_len (from + 1) count) ≡ true) → (test from || list_any test (range_with_len (from + 1) count)) ≡ true
    go true less later =
        let same : from ≡ i = (let down = leb-true i from less in omega (arith, le, down)) in
        let here : test from ≡ true = ap test same ∙ is in
        rw here refl
    go false more later = or_right (test from) (list_any test (range_with_len (from + 1) count)) (later (leb-false i from more))

none_more_from : (test : ℕ → Bool) (from count : ℕ) → list_any test (range_with_len from count) ≡ false → test (from + count) ≡ false → list_any test (range_with_len from (suc count)) ≡ false
none_more_from test from zero none next = neither_is (test from) false (ap test (let same : from ≡ from + 0 = omega arith in same) ∙ next) refl
none_more_from test from (suc count) none next =
    let both = neither (test from) (list_any test (range_with_len (from + 1) count)) none in
    neither_is (test from) (list_any test (range_with_len (from + 1) (suc count))) both.0
    (none_more_from test (from + 1) count both.1 (ap test (let same : (from + 1) + count ≡ from + suc count = omega arith in same) ∙ next))

-- a test that fails for all numbers so far and for the next one fails for all
pub none_more : (test : ℕ → Bool) (count : ℕ) → list_any test (range_with_len 0 count) ≡ false → test count ≡ false → list_any test (range_with_len 0 (count + 1)) ≡ false
none_more test count none next = ap (λ (n : ℕ). list_any test (range_with_len 0 n)) (add-one count) ∙ none_more_from test 0 count none (ap test (let same : 0 + count ≡ count = omega arith in same) ∙ next)

-- a test that fails for all numbers fails for each
pub none_is : (test : ℕ → Bool) (i count : ℕ) → list_any test (range_with_len 0 count) ≡ false → i < count → test i ≡ false
none_is test i count none lt = go (test i) refl
  where
    go : (b : Bool) → test i ≡ b → test i ≡ false
    go true is = let clash : true ≡ false = sym (any_found test i 0 count is (omega arith) (omega (arith, lt))) ∙ none in cc
    go false is = is

-- the first of two names, if there are two, isn't drawn if the first that was given isn't
pub first_free : {P : Type 0} (first_of second_of : P → List ℕ) (r : Option P) (first second : List ℕ) → option_map (λ p. (first_of p, second_of p)) r ≡ two_names first second → is_drawn first ≡ false → IfSome r (λ p. is_drawn (first_of p) ≡ false)
first_free first_of second_of None first second is free = tt
first_free {P} first_of second_of (Some p) first second is free = go ((is_name first && is_name second) && not (bytes_eq first second)) is
  where
    go : (fits : Bool) → ◌≡◌ {A = Option (List ℕ × List ℕ)} (Some (first_of p, second_of p)) (cond fits (Some (first, second)) None) → is_drawn (first_of p) ≡ false
    go true same = ap (λ (names : Option (List ℕ × List ℕ)). is_drawn (unwrap_or names (first, second)).0) same ∙ free
    go false same = cc
