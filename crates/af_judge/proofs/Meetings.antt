-- A meeting of two parties cuts an order of their events: what each did before it stands before what either does after it.
use Rattle.std.proofs.Common.{◌≡◌, ℕ, suc, ◌+◌, ◌≤◌, List, [], ◌∷◌, ◌++◌, length, refl, sym, ap, ◌∙◌, subst, arith}
use Rattle.af_judge.proofs.Common.{Event, HasOrder, Legal, point_after, one, ones, ones_append, two, twos}

tail_of : {A : Type 0} → List A → List A
tail_of [] = []
tail_of (x ∷ xs) = xs

head_or : {A : Type 0} → A → List A → A
head_or d [] = d
head_or d (x ∷ xs) = x

module _ {P A B : Type 0} (legal : P → Event A B → Type 0) (next : P → Event A B → P) where
  -- The events `a` and `b` are a meeting of the two parties, of which the one knows of so many events of the second and the other of so many of the first: each may stand where those stand, and changes nothing for the other party
  pub record IsMeeting (firsts seconds : P → ℕ) (a : A) (b : B) (known_first known_second : ℕ) : Type 0 where
    pub first_counts : (p : P) (x : A) → firsts (next p (one x)) ≡ firsts p + 1
    pub first_stays : (p : P) (y : B) → firsts (next p (two y)) ≡ firsts p
    pub second_counts : (p : P) (y : B) → seconds (next p (two y)) ≡ seconds p + 1
    pub second_stays : (p : P) (x : A) → seconds (next p (one x)) ≡ seconds p
    pub a_knows : (p : P) → legal p (one a) → known_second ≤ seconds p
    pub b_knows : (p : P) → legal p (two b) → known_first ≤ firsts p
    pub a_earlier : (p : P) (y : B) → known_second ≤ seconds p → legal (next p (two y)) (one a) → legal p (one a)
    pub b_earlier : (p : P) (x : A) → known_first ≤ firsts p → legal (next p (one x)) (two b) → legal p (two b)
    pub a_keeps : (p : P) (y : B) → legal p (two y) → legal (next p (one a)) (two y)
    pub b_keeps : (p : P) (x : A) → legal p (one x) → legal (next p (two b)) (one x)
    pub a_swaps : (p : P) (y : B) → next (next p (two y)) (one a) ≡ next (next p (one a)) (two y)
    pub b_swaps : (p : P) (x : A) → next (next p (one x)) (two b) ≡ next (next p (two b)) (one x)

  module _ (firsts seconds : P → ℕ) (a : A) (b : B) (known_first known_second : ℕ) (m : IsMeeting firsts seconds a b known_first known_second) where
    -- the other party's half of the meeting may stand at once
    record IsFirstB (p : P) (xs : List A) (ys : List B) : Type 0 where
      may : legal p (two b)
      order : HasOrder legal next (next p (two b)) xs ys

    record IsFirstA (p : P) (xs : List A) (ys : List B) : Type 0 where
      may : legal p (one a)
      order : HasOrder legal next (next p (one a)) xs ys

    bring_b : (p : P) (es : List (Event A B)) (ys : List B) → known_first ≤ firsts p → Legal legal next p es → twos es ≡ b ∷ ys → IsFirstB p (ones es) ys
    unfolding tail_of head_or
    bring_b p [] ys known l e = let n : 0 ≡ suc (length ys) = ap length e in absurd (omega arith)
    bring_b p (two y ∷ es) ys known l e =
        let same : y ≡ b = ap (head_or b) e in
        record {
          may = subst (λ z. legal p (two z)) same l.0;
          order = record { order = es; is_legal = subst (λ z. Legal legal next (next p (two z)) es) same l.1; of_one = refl; of_two = ap tail_of e };
        }
    bring_b p (one x ∷ es) ys known l e =
        let r = bring_b (next p (one x)) es ys (subst (λ n. known_first ≤ n) (sym (m.first_counts p x)) (omega arith)) l.1 e in
        record {
          may = m.b_earlier p x known r.may;
          order = record {
            order = one x ∷ r.order.order;
            is_legal = (m.b_keeps p x l.0, subst (λ q. Legal legal next q r.order.order) (m.b_swaps p x) r.order.is_legal);
            of_one = ap (λ zs. x ∷ zs) r.order.of_one;
            of_two = r.order.of_two;
          };
        }

    bring_a : (p : P) (es : List (Event A B)) (xs : List A) → known_second ≤ seconds p → Legal legal next p es → ones es ≡ a ∷ xs → IsFirstA p xs (twos es)
    unfolding tail_of head_or
    bring_a p [] xs known l e = let n : 0 ≡ suc (length xs) = ap length e in absurd (omega arith)
    bring_a p (one x ∷ es) xs known l e =
        let same : x ≡ a = ap (head_or a) e in
        record {
          may = subst (λ z. legal p (one z)) same l.0;
          order = record { order = es; is_legal = subst (λ z. Legal legal next (next p (one z)) es) same l.1; of_one = ap tail_of e; of_two = refl };
        }
    bring_a p (two y ∷ es) xs known l e =
        let r = bring_a (next p (two y)) es xs (subst (λ n. known_second ≤ n) (sym (m.second_counts p y)) (omega arith)) l.1 e in
        record {
          may = m.a_earlier p y known r.may;
          order = record {
            order = two y ∷ r.order.order;
            is_legal = (m.a_keeps p y l.0, subst (λ q. Legal legal next q r.order.order) (m.a_swaps p y) r.order.is_legal);
            of_one = r.order.of_one;
            of_two = ap (λ zs. y ∷ zs) r.order.of_two;
          };
        }

    -- an order cut at the meeting: before it, and after both halves of it
    pub record IsCut (p : P) (xs : List A) (ys : List B) (later : List A) (looks : List B) : Type 0 where
      pub before : HasOrder legal next p xs ys
      pub may_a : legal (point_after legal next p before.order) (one a)
      pub may_b : legal (next (point_after legal next p before.order) (one a)) (two b)
      pub behind : HasOrder legal next (next (next (point_after legal next p before.order) (one a)) (two b)) later looks

    cut_one : (p : P) (x : A) (xs : List A) (ys : List B) (later : List A) (looks : List B) → legal p (one x) → IsCut (next p (one x)) xs ys later looks → IsCut p (x ∷ xs) ys later looks
    cut_one p x xs ys later looks may c = record {
      before = record { order = one x ∷ c.before.order; is_legal = (may, c.before.is_legal); of_one = ap (λ zs. x ∷ zs) c.before.of_one; of_two = c.before.of_two };
      may_a = c.may_a;
      may_b = c.may_b;
      behind = c.behind;
    }

    cut_two : (p : P) (y : B) (xs : List A) (ys : List B) (later : List A) (looks : List B) → legal p (two y) → IsCut (next p (two y)) xs ys later looks → IsCut p xs (y ∷ ys) later looks
    cut_two p y xs ys later looks may c = record {
      before = record { order = two y ∷ c.before.order; is_legal = (may, c.before.is_legal); of_one = c.before.of_one; of_two = ap (λ zs. y ∷ zs) c.before.of_two };
      may_a = c.may_a;
      may_b = c.may_b;
      behind = c.behind;
    }

    abbrev nothing : (p : P) → HasOrder legal next p [] []
    nothing p = record { order = []; is_legal = tt; of_one = refl; of_two = refl }

    cut_here_a : (p : P) (es : List (Event A B)) (later : List A) (looks : List B) → known_first ≤ firsts p → legal p (one a) → Legal legal next (next p (one a)) es → ones es ≡ later → twos es ≡ b ∷ looks → IsCut p [] [] later looks
    cut_here_a p es later looks known may l e f =
        let r = bring_b (next p (one a)) es looks (subst (λ n. known_first ≤ n) (sym (m.first_counts p a)) (omega arith)) l f in
        record { before = nothing p; may_a = may; may_b = r.may; behind = subst (λ zs. HasOrder legal next (next (next p (one a)) (two b)) zs looks) e r.order }

    cut_here_b : (p : P) (es : List (Event A B)) (later : List A) (looks : List B) → known_second ≤ seconds p → legal p (two b) → Legal legal next (next p (two b)) es → ones es ≡ a ∷ later → twos es ≡ looks → IsCut p [] [] later looks
    cut_here_b p es later looks known may l e f =
        let r = bring_a (next p (two b)) es later (subst (λ n. known_second ≤ n) (sym (m.second_counts p b)) (omega arith)) l e in
        record {
          before = nothing p;
          may_a = m.a_earlier p b known r.may;
          may_b = m.a_keeps p b may;
          behind = subst (λ zs. HasOrder legal next (next (next p (one a)) (two b)) later zs) f (subst (λ q. HasOrder legal next q later (twos es)) (m.a_swaps p b) r.order);
        }

    -- every order of lists with a meeting is cut at it
    pub cut_at : (p : P) (es : List (Event A B)) (xs : List A) (ys : List B) (later : List A) (looks : List B) → firsts p + length xs ≡ known_first → seconds p + length ys ≡ known_second
        → Legal legal next p es → ones es ≡ xs ++ a ∷ later → twos es ≡ ys ++ b ∷ looks → IsCut p xs ys later looks
    unfolding tail_of head_or
    cut_at p [] [] ys later looks n k l e f = let z : 0 ≡ suc (length later) = ap length e in absurd (omega arith)
    cut_at p [] (x ∷ xs) ys later looks n k l e f = let z : 0 ≡ suc (length (xs ++ a ∷ later)) = ap length e in absurd (omega arith)
    cut_at p (one z ∷ es) (x ∷ xs) ys later looks n k l e f =
        let same : z ≡ x = ap (head_or x) e in
        cut_one p x xs ys later looks (subst (λ w. legal p (one w)) same l.0)
        (cut_at (next p (one x)) es xs ys later looks (ap (λ c. c + length xs) (m.first_counts p x) ∙ (omega (arith, n))) (ap (λ c. c + length ys) (m.second_stays p x) ∙ k)
        (subst (λ w. Legal legal next (next p (one w)) es) same l.1) (ap tail_of e) f)
    cut_at p (two z ∷ es) xs (y ∷ ys) later looks n k l e f =
        let same : z ≡ y = ap (head_or y) f in
        cut_two p y xs ys later looks (subst (λ w. legal p (two w)) same l.0)
        (cut_at (next p (two y)) es xs ys later looks (ap (λ c. c + length xs) (m.first_stays p y) ∙ n) (ap (λ c. c + length ys) (m.second_counts p y) ∙ (omega (arith, k)))
        (subst (λ w. Legal legal next (next p (two w)) es) same l.1) e (ap tail_of f))
    cut_at p (one z ∷ es) [] [] later looks n k l e f =
        let same : z ≡ a = ap (head_or a) e in
        cut_here_a p es later looks (omega (arith, n)) (subst (λ w. legal p (one w)) same l.0) (subst (λ w. Legal legal next (next p (one w)) es) same l.1) (ap tail_of e) f
    cut_at p (two z ∷ es) [] [] later looks n k l e f =
        let same : z ≡ b = ap (head_or b) f in
        cut_here_b p es later looks (omega (arith, k)) (subst (λ w. legal p (two w)) same l.0) (subst (λ w. Legal legal next (next p (two w)) es) same l.1) e (ap tail_of f)
    cut_at p (one z ∷ es) [] (y ∷ ys) later looks n k l e f =
        let same : z ≡ a = ap (head_or a) e in
        absurd (omega (arith, k, m.a_knows p (subst (λ w. legal p (one w)) same l.0)))
    cut_at p (two z ∷ es) (x ∷ xs) [] later looks n k l e f =
        let same : z ≡ b = ap (head_or b) f in
        absurd (omega (arith, n, m.b_knows p (subst (λ w. legal p (two w)) same l.0)))

  pub legal_both : (p : P) (es fs : List (Event A B)) → Legal legal next p es → Legal legal next (point_after legal next p es) fs → Legal legal next p (es ++ fs)
  legal_both p [] fs l k = k
  legal_both p (e ∷ es) fs l k = (l.0, legal_both (next p e) es fs l.1 k)

  pub twos_both : (xs ys : List (Event A B)) → twos (xs ++ ys) ≡ twos xs ++ twos ys
  twos_both [] ys = refl
  twos_both (one a ∷ xs) ys = twos_both xs ys
  twos_both (two b ∷ xs) ys = ap (λ z. b ∷ z) (twos_both xs ys)

  -- a cut order is an order
  unfoldable pub joined_at : (firsts seconds : P → ℕ) (a : A) (b : B) (known_first known_second : ℕ) (m : IsMeeting firsts seconds a b known_first known_second) (p : P) (xs : List A) (ys : List B) (later : List A) (looks : List B)
      → IsCut firsts seconds a b known_first known_second m p xs ys later looks → HasOrder legal next p (xs ++ a ∷ later) (ys ++ b ∷ looks)
  joined_at firsts seconds a b known_first known_second m p xs ys later looks c = record {
    order = c.before.order ++ one a ∷ two b ∷ c.behind.order;
    is_legal = legal_both p c.before.order (one a ∷ two b ∷ c.behind.order) c.before.is_legal (c.may_a, (c.may_b, c.behind.is_legal));
    of_one = ones_append c.before.order (one a ∷ two b ∷ c.behind.order) ∙ ((λ j. c.before.of_one j ++ a ∷ c.behind.of_one j));
    of_two = twos_both c.before.order (one a ∷ two b ∷ c.behind.order) ∙ ((λ j. c.before.of_two j ++ b ∷ c.behind.of_two j));
  }
