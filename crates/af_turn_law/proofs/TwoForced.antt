-- Two parties' lists have one legal order, but for the places of marks, if an order in phases is known.
use Rattle.std.proofs.Common.{◌≡◌, ◌⊎◌, inl, inr, ℕ, ◌+◌, ◌≤◌, ◌<◌, ◌||◌, Bool, true, false, MatchBool, List, [], ◌∷◌, ◌++◌, length, drop, get_or, refl, sym, ap, ◌∙◌, subst, arith, length-append}
use Rattle.af_turn_law.proofs.Common.{Event, Legal, cases_lt, one, ones, two, twos}
use Rattle.af_model.specs.Order.{point_after}
use Rattle.af_turn_law.specs.Marking.{Marking, learnt, OnlyMarksPast}
use Rattle.af_turn_law.specs.Phased.{IsPhasedFrom}
use Rattle.af_turn_law.proofs.Marked.{by_flag, past_front, past_last, learnt_last}

module _ {P A B : Type 0} (legal : P → Event A B → Type 0) (next : P → Event A B → P) (ma : Marking A) (mb : Marking B) (ones_in twos_in : P → ℕ) where
  -- Marks pass events of the other party: marks change nothing but counts, and go by counts
  pub record MarksPass : Type 0 where
    pub one_counts : (p : P) (a : A) → (ones_in (next p (one a)) ≡ ones_in p + 1) × (twos_in (next p (one a)) ≡ twos_in p)
    pub two_counts : (p : P) (b : B) → (ones_in (next p (two b)) ≡ ones_in p) × (twos_in (next p (two b)) ≡ twos_in p + 1)
    pub one_plain : (a : A) → ma.is_mark a ≡ false → ma.named a ≡ 0
    pub two_plain : (b : B) → mb.is_mark b ≡ false → mb.named b ≡ 0
    pub one_learns : (p : P) (a : A) → legal p (one a) → ma.named a ≤ twos_in p
    pub two_learns : (p : P) (b : B) → legal p (two b) → mb.named b ≤ ones_in p
    pub one_first : (p : P) (a : A) (b : B) → (ma.is_mark a || mb.is_mark b) ≡ true → ma.named a ≤ twos_in p → legal p (two b) → legal (next p (two b)) (one a)
        → legal p (one a) × legal (next p (one a)) (two b) × (next (next p (one a)) (two b) ≡ next (next p (two b)) (one a))
    pub two_first : (p : P) (a : A) (b : B) → (ma.is_mark a || mb.is_mark b) ≡ true → mb.named b ≤ ones_in p → legal p (one a) → legal (next p (one a)) (two b)
        → legal p (two b) × legal (next p (two b)) (one a) × (next (next p (two b)) (one a) ≡ next (next p (one a)) (two b))

  -- an order from which an event was taken to the front
  pub record Front (p : P) (e : Event A B) (xs : List A) (ys : List B) (end : P) : Type 0 where
    pub rest : List (Event A B)
    pub first : legal p e
    pub is_legal : Legal legal next (next p e) rest
    pub of_one : ones rest ≡ xs
    pub of_two : twos rest ≡ ys
    pub ends : point_after legal next (next p e) rest ≡ end

  -- each event of a list that is no mark comes behind a mark that names more than so many
  abbrev Behind : {E : Type 0} → Marking E → ℕ → List E → Type 0
  Behind m n [] = Unit {0}
  Behind m n (e ∷ es) = MatchBool (m.is_mark e) ((n < m.named e) ⊎ Behind m n es) ⊥

  behind_next : {E : Type 0} (m : Marking E) (n k : ℕ) (e : E) (es : List E) → Behind m n (e ∷ es) → m.named e ≤ n → n ≡ k → (m.is_mark e ≡ true) × Behind m k es
  behind_next m n k e es h le same = elim (by_flag (m.is_mark e) h) [
    | inl (is, inl lt) ↦ absurd (let z : ⊥ = omega (arith, lt, le) in z)
    | inl (is, inr more) ↦ (is, subst (λ j. Behind m j es) same more)
    | inr (is, never) ↦ absurd never
  ]

  either : (a b : Bool) → (a ≡ false → b ≡ true) → (a || b) ≡ true
  either true b h = refl
  either false b h = h refl

  also : (a b : Bool) → (b ≡ false → a ≡ true) → (a || b) ≡ true
  also true b h = refl
  also false true h = refl
  also false false h = h refl

  module _ (passes : MarksPass) where
    pull_one : (p : P) (a : A) (xs : List A) (order : List (Event A B)) → ones order ≡ a ∷ xs → Legal legal next p order → ma.named a ≤ twos_in p → (ma.is_mark a ≡ false → Behind mb (ones_in p) (twos order))
        → Front p (one a) xs (twos order) (point_after legal next p order)
    pull_one p a xs [] is l few behind = absurd (let z : ⊥ = (let n : 0 ≡ length (a ∷ xs) = ap length is in omega (arith, n)) in z)
    pull_one p a xs (one x ∷ order) is l few behind =
        let same : x ≡ a = ap (λ l. get_or l 0 x) is in
        record {
          rest = order;
          first = subst (λ z. legal p (one z)) same l.0;
          is_legal = subst (λ z. Legal legal next (next p (one z)) order) same l.1;
          of_one = ap (drop 1) is;
          of_two = refl;
          ends = λ i. point_after legal next (next p (one (sym same i))) order;
        }
    pull_one p a xs (two b ∷ order) is l few behind =
        let counts = passes.two_counts p b in
        let learnt_b = passes.two_learns p b l.0 in
        let r = pull_one (next p (two b)) a xs order is l.1 (let c = counts.1 in omega (arith, few, c)) (λ plain. (behind_next mb (ones_in p) (ones_in (next p (two b))) b (twos order) (behind plain) learnt_b (sym counts.0)).1) in
        let swap = passes.one_first p a b (either (ma.is_mark a) (mb.is_mark b) (λ plain. (behind_next mb (ones_in p) (ones_in p) b (twos order) (behind plain) learnt_b refl).0)) few l.0 r.first in
        record {
          rest = two b ∷ r.rest;
          first = swap.0;
          is_legal = (swap.1, subst (λ q. Legal legal next q r.rest) (sym swap.2) r.is_legal);
          of_one = r.of_one;
          of_two = ap (λ l. b ∷ l) r.of_two;
          ends = ap (λ q. point_after legal next q r.rest) swap.2 ∙ r.ends;
        }

    pull_two : (p : P) (b : B) (ys : List B) (order : List (Event A B)) → twos order ≡ b ∷ ys → Legal legal next p order → mb.named b ≤ ones_in p → (mb.is_mark b ≡ false → Behind ma (twos_in p) (ones order))
        → Front p (two b) (ones order) ys (point_after legal next p order)
    pull_two p b ys [] is l few behind = absurd (let z : ⊥ = (let n : 0 ≡ length (b ∷ ys) = ap length is in omega (arith, n)) in z)
    pull_two p b ys (two x ∷ order) is l few behind =
        let same : x ≡ b = ap (λ l. get_or l 0 x) is in
        record {
          rest = order;
          first = subst (λ z. legal p (two z)) same l.0;
          is_legal = subst (λ z. Legal legal next (next p (two z)) order) same l.1;
          of_one = refl;
          of_two = ap (drop 1) is;
          ends = λ i. point_after legal next (next p (two (sym same i))) order;
        }
    pull_two p b ys (one a ∷ order) is l few behind =
        let counts = passes.one_counts p a in
        let learnt_a = passes.one_learns p a l.0 in
        let r = pull_two (next p (one a)) b ys order is l.1 (let c = counts.0 in omega (arith, few, c)) (λ plain. (behind_next ma (twos_in p) (twos_in (next p (one a))) a (ones order) (behind plain) learnt_a (sym counts.1)).1) in
        let swap = passes.two_first p a b (also (ma.is_mark a) (mb.is_mark b) (λ plain. (behind_next ma (twos_in p) (twos_in p) a (ones order) (behind plain) learnt_a refl).0)) few l.0 r.first in
        record {
          rest = one a ∷ r.rest;
          first = swap.0;
          is_legal = (swap.1, subst (λ q. Legal legal next q r.rest) (sym swap.2) r.is_legal);
          of_one = ap (λ l. a ∷ l) r.of_one;
          of_two = r.of_two;
          ends = ap (λ q. point_after legal next q r.rest) swap.2 ∙ r.ends;
        }

    -- ## What an order in phases says of the list of one party

    -- some event past the first n is no mark
    abbrev HasPlain : {E : Type 0} → Marking E → ℕ → List E → Type 0
    HasPlain m n es = (k : ℕ) → OnlyMarksPast m k es → n < k

    twos_behind : (xs : List A) (ys : List B) (n : ℕ) (es : List (Event A B)) → HasPlain ma n xs → learnt mb ys ≤ n → IsPhasedFrom ma mb xs ys es → Behind mb n (twos es)
    twos_behind xs ys n [] plain low h = tt
    twos_behind xs ys n (one a ∷ es) plain low h = twos_behind (xs ++ a ∷ []) ys n es (λ k past. plain k (past_front ma k xs (a ∷ []) past)) low h.1
    twos_behind xs ys n (two b ∷ es) plain low h = by_mark (mb.is_mark b) refl h.0 (λ low. twos_behind xs (ys ++ b ∷ []) n es plain low h.1)
      where
        by_mark : (is : Bool) → mb.is_mark b ≡ is → MatchBool is (mb.named b ≤ length xs) (OnlyMarksPast ma (learnt mb ys) xs) → (learnt mb (ys ++ b ∷ []) ≤ n → Behind mb n (twos es)) → MatchBool is ((n < mb.named b) ⊎ Behind mb n (twos es)) ⊥
        by_mark true is due rest = elim (cases_lt n (mb.named b)) [
          | inl more ↦ inl more
          | inr few ↦ inr (rest (let e = learnt_last mb ys b in omega (arith, e, few, low)))
        ]
        by_mark false is due rest = let past = plain (learnt mb ys) due in omega (arith, past, low)

    ones_behind : (xs : List A) (ys : List B) (n : ℕ) (es : List (Event A B)) → HasPlain mb n ys → learnt ma xs ≤ n → IsPhasedFrom ma mb xs ys es → Behind ma n (ones es)
    ones_behind xs ys n [] plain low h = tt
    ones_behind xs ys n (two b ∷ es) plain low h = ones_behind xs (ys ++ b ∷ []) n es (λ k past. plain k (past_front mb k ys (b ∷ []) past)) low h.1
    ones_behind xs ys n (one a ∷ es) plain low h = by_mark (ma.is_mark a) refl h.0 (λ low. ones_behind (xs ++ a ∷ []) ys n es plain low h.1)
      where
        by_mark : (is : Bool) → ma.is_mark a ≡ is → MatchBool is (ma.named a ≤ length ys) (OnlyMarksPast mb (learnt ma xs) ys) → (learnt ma (xs ++ a ∷ []) ≤ n → Behind ma n (ones es)) → MatchBool is ((n < ma.named a) ⊎ Behind ma n (ones es)) ⊥
        by_mark true is due rest = elim (cases_lt n (ma.named a)) [
          | inl more ↦ inl more
          | inr few ↦ inr (rest (let e = learnt_last ma xs a in omega (arith, e, few, low)))
        ]
        by_mark false is due rest = let past = plain (learnt ma xs) due in omega (arith, past, low)

    -- ## The law

    none_left : (order : List (Event A B)) → ones order ≡ [] → twos order ≡ [] → order ≡ []
    none_left [] a b = refl
    none_left (one x ∷ order) a b = absurd (let z : ⊥ = (let n : length (x ∷ ones order) ≡ 0 = ap length a in omega (arith, n)) in z)
    none_left (two x ∷ order) a b = absurd (let z : ⊥ = (let n : length (x ∷ twos order) ≡ 0 = ap length b in omega (arith, n)) in z)

    pub forced_from : (p : P) (xs : List A) (ys : List B) (told order : List (Event A B)) → ones_in p ≡ length xs → twos_in p ≡ length ys → learnt ma xs ≤ length ys → learnt mb ys ≤ length xs
        → IsPhasedFrom ma mb xs ys told → Legal legal next p order → ones order ≡ ones told → twos order ≡ twos told
        → Legal legal next p told × (point_after legal next p told ≡ point_after legal next p order)
    forced_from p xs ys [] order on tw low_a low_b h l same_ones same_twos = (tt, ap (point_after legal next p) (sym (none_left order same_ones same_twos)))
    forced_from p xs ys (one a ∷ told) order on tw low_a low_b h l same_ones same_twos =
        let named_few : ma.named a ≤ length ys = elim (by_flag (ma.is_mark a) h.0) [ inl (is, few) ↦ few | inr (is, knows) ↦ (let none = passes.one_plain a is in omega (arith, none)) ] in
        let r = pull_one p a (ones told) order same_ones l (omega (arith, named_few, tw))
        (λ plain. subst (λ l. Behind mb (ones_in p) l) (sym same_twos) (twos_behind (xs ++ a ∷ []) ys (ones_in p) told (λ k past. (let lt = past_last ma k xs a plain past in omega (arith, lt, on))) (omega (arith, low_b, on)) h.1)) in
        let counts = passes.one_counts p a in
        let rest = forced_from (next p (one a)) (xs ++ a ∷ []) ys told r.rest (let c = counts.0 in let n = length-append xs (a ∷ []) in omega (arith, c, n, on)) (let c = counts.1 in omega (arith, c, tw))
        (let e = learnt_last ma xs a in omega (arith, e, named_few, low_a)) (let n = length-append xs (a ∷ []) in omega (arith, n, low_b)) h.1 r.is_legal r.of_one (r.of_two ∙ same_twos) in
        ((r.first, rest.0), rest.1 ∙ r.ends)
    forced_from p xs ys (two b ∷ told) order on tw low_a low_b h l same_ones same_twos =
        let named_few : mb.named b ≤ length xs = elim (by_flag (mb.is_mark b) h.0) [ inl (is, few) ↦ few | inr (is, knows) ↦ (let none = passes.two_plain b is in omega (arith, none)) ] in
        let r = pull_two p b (twos told) order same_twos l (omega (arith, named_few, on))
        (λ plain. subst (λ l. Behind ma (twos_in p) l) (sym same_ones) (ones_behind xs (ys ++ b ∷ []) (twos_in p) told (λ k past. (let lt = past_last mb k ys b plain past in omega (arith, lt, tw))) (omega (arith, low_a, tw)) h.1)) in
        let counts = passes.two_counts p b in
        let rest = forced_from (next p (two b)) xs (ys ++ b ∷ []) told r.rest (let c = counts.0 in omega (arith, c, on)) (let c = counts.1 in let n = length-append ys (b ∷ []) in omega (arith, c, n, tw))
        (let n = length-append ys (b ∷ []) in omega (arith, n, low_a)) (let e = learnt_last mb ys b in omega (arith, e, named_few, low_b)) h.1 r.is_legal (r.of_one ∙ same_ones) r.of_two in
        ((r.first, rest.0), rest.1 ∙ r.ends)
