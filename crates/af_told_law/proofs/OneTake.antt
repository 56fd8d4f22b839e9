-- If the takes of a turn are those of the tracks that are due, a track has one take at most.
use Rattle.std.proofs.Common.{◌≡◌, ◌≢◌, ℕ, zero, suc, ◌+◌, ◌<◌, ◌≤◌, ◌==◌, Bool, true, false, if◌then◌else◌, filter, List, [], ◌∷◌, length, map, refl, ap, subst, ◌∙◌, ⊎_elim, arith, eqb-true, ne_eqb}
use Rattle.af_told_law.proofs.Common.{TakeSeen, cases_eq, range_with_len, takes_from}

abbrev pub once : Bool → ℕ
once b = if b then 1 else 0

-- how often a number stands in a list
abbrev pub times : ℕ → List ℕ → ℕ
times i [] = 0
times i (j ∷ js) = once (j == i) + times i js

-- a number counts once at most in a place
one_more : (b : Bool) → once b ≤ 1
one_more true = omega arith
one_more false = omega arith

-- among the numbers from a on, a number below a doesn't stand, and no number stands twice
times_below : (i a n : ℕ) → i < a → times i (range_with_len a n) ≡ 0
times_below i a zero lt = refl
times_below i a (suc n) lt =
    let none : once (a == i) ≡ 0 = ap once (ne_eqb a i (λ e. omega (arith, e, lt))) in
    let rest : times i (range_with_len (a + 1) n) ≡ 0 = times_below i (a + 1) n (omega (arith, lt)) in
    omega (arith, none, rest)

times_range : (i a n : ℕ) → times i (range_with_len a n) ≤ 1
times_range i a zero = omega arith
times_range i a (suc n) = ⊎_elim
    (λ (e : a ≡ i).
    let rest : times i (range_with_len (a + 1) n) ≡ 0 = times_below i (a + 1) n (omega (arith, e)) in
    omega (arith, one_more (a == i), rest))
    (λ (ne : a ≢ i).
    let none : once (a == i) ≡ 0 = ap once (ne_eqb a i ne) in
    let rest : times i (range_with_len (a + 1) n) ≤ 1 = times_range i (a + 1) n in
    omega (arith, none, rest))
    (cases_eq a i)

-- a choice of the numbers of a list has a number no more often than the list
fewer : (i j : ℕ) (chosen all : List ℕ) (b : Bool) → times i chosen ≤ times i all → times i (if b then j ∷ chosen else chosen) ≤ once (j == i) + times i all
fewer i j chosen all true le = omega (arith, le)
fewer i j chosen all false le = omega (arith, le)

times_filter : (p : ℕ → Bool) (i : ℕ) (js : List ℕ) → times i (filter p js) ≤ times i js
times_filter p i [] = omega arith
times_filter p i (j ∷ js) = fewer i j (filter p js) js (p j) (times_filter p i js)

-- the takes of a track are as many as its number stands among those of all takes
one_longer : (t : TakeSeen) (taken : List TakeSeen) (n : ℕ) (b : Bool) → length taken ≡ n → length (if b then t ∷ taken else taken) ≡ once b + n
one_longer t taken n true e = omega (arith, e)
one_longer t taken n false e = omega (arith, e)

takes_count : (i : ℕ) (takes : List TakeSeen) → length (takes_from takes i) ≡ times i (map (λ (t : TakeSeen). t.track) takes)
takes_count i [] = refl
takes_count i (t ∷ takes) = one_longer t (takes_from takes i) (times i (map (λ (x : TakeSeen). x.track) takes)) (t.track == i) (takes_count i takes)

-- a number that stands in a choice was chosen
module _ (p : ℕ → Bool) (i j : ℕ) (chosen : List ℕ) (rest : 1 ≤ times i chosen → p i ≡ true) where
  here_or_later : (b : Bool) → (j == i) ≡ b → p j ≡ true → 1 ≤ once b + times i chosen → p i ≡ true
  here_or_later true is passed more = subst (λ (k : ℕ). p k ≡ true) (eqb-true j i is) passed
  here_or_later false is passed more = rest (omega (arith, more))

  by_choice : (b : Bool) → p j ≡ b → 1 ≤ times i (if b then j ∷ chosen else chosen) → p i ≡ true
  by_choice true is more = here_or_later (j == i) refl is more
  by_choice false is more = rest more

times_passes : (p : ℕ → Bool) (i : ℕ) (js : List ℕ) → 1 ≤ times i (filter p js) → p i ≡ true
times_passes p i [] some = absurd (omega (arith, some))
times_passes p i (j ∷ js) some = by_choice p i j (filter p js) (times_passes p i js) (p j) refl some

-- the takes are those of the tracks that are due, if there is a buffer
module _ (p : ℕ → Bool) (n i : ℕ) (takes : List TakeSeen) where
  due_times : (b : Bool) → times i (if b then filter p (range_with_len 0 n) else []) ≤ 1
  due_times true = let few = times_filter p i (range_with_len 0 n) in let one = times_range i 0 n in omega (arith, few, one)
  due_times false = omega arith

  due_passes : (b : Bool) → 1 ≤ times i (if b then filter p (range_with_len 0 n) else []) → p i ≡ true
  due_passes true some = times_passes p i (range_with_len 0 n) some
  due_passes false some = absurd (omega (arith, some))

  -- a track was taken from once at most, and only if it is due
  module _ (b : Bool) (due : map (λ (t : TakeSeen). t.track) takes ≡ (if b then filter p (range_with_len 0 n) else [])) where
    many : length (takes_from takes i) ≡ times i (if b then filter p (range_with_len 0 n) else [])
    many = takes_count i takes ∙ ap (times i) due

    pub one_take : length (takes_from takes i) ≤ 1
    one_take = let few = due_times b in omega (arith, many, few)

    pub taken_is_due : 1 ≤ length (takes_from takes i) → p i ≡ true
    taken_is_due some = due_passes b (omega (arith, many, some))
