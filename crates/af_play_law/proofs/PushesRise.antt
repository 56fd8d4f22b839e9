-- Of two beginnings of one list of pushes the longer one pushes as much or more, and if both push as much the last state is the same.
use Rattle.std.proofs.Common.{◌≡◌, ◌⊎◌, inl, inr, ℕ, ◌+◌, ◌≤◌, false, true≢false, List, [], ◌∷◌, ◌++◌, length, length-append, append-nil, fold, get_or, Option, refl, sym, ap, subst, ◌∙◌, arith}
use Rattle.af_play_law.proofs.Common.{Event, FastState, HasStateHistory, Legal, MutatorEvent, MutatorPoint, ObserverEvent, Push, QueuePoint, SawAck, fold-append, is_push, legal, list_any, mutated, mutator_next, mutator_start, next, one, ones, start_of_queue, two}
use Rattle.af_model.specs.declared.states.MutatorEvent.TheVariants as mutator

-- ## Beginnings of one list

abbrev tail_of : {A : Type 0} → List A → List A
tail_of [] = []
tail_of (x ∷ xs) = xs

-- the beginning ys goes on from xs, and the rest us of the list from there
pub record Cuts {A : Type 0} (xs us ys vs : List A) : Type 0 where
  pub between : List A
  pub longer : ys ≡ xs ++ between
  pub rest : us ≡ between ++ vs

-- of two beginnings one goes on from the other
pub either_cuts : {A : Type 0} (xs us ys vs : List A) → xs ++ us ≡ ys ++ vs → Cuts xs us ys vs ⊎ Cuts ys vs xs us
either_cuts [] us ys vs e = inl (record { between = ys; longer = refl; rest = e })
either_cuts {A} (x ∷ xs) us [] vs e = inr (record { between = x ∷ xs; longer = refl; rest = sym e })
either_cuts {A} (x ∷ xs) us (y ∷ ys) vs e =
    let same : x ≡ y = ap (λ (l : List A). get_or l 0 x) e in
    elim (either_cuts xs us ys vs (ap tail_of e)) as (λ _. Cuts (x ∷ xs) us (y ∷ ys) vs ⊎ Cuts (y ∷ ys) vs (x ∷ xs) us) [
      | inl c ↦ inl (record { between = c.between; longer = (λ i. sym same i ∷ c.longer i); rest = c.rest })
      | inr c ↦ inr (record { between = c.between; longer = (λ i. same i ∷ c.longer i); rest = c.rest })
    ]

-- ## Pushes

module _ {P : Type 0} where
  -- each push has the next number after n
  abbrev pub Numbered : ℕ → List (MutatorEvent P) → Type 0
  Numbered n [] = Unit {0}
  Numbered n (Push k x items ∷ ms) = (k ≡ n + 1) × Numbered k ms
  Numbered n (SawAck a items ∷ ms) = Numbered n ms
  Numbered n (mutator.Learn c ∷ ms) = Numbered n ms

  pub numbered_in : (p : QueuePoint P) (es : List (Event (MutatorEvent P) (ObserverEvent P))) → Legal legal next p es → Numbered p.mutator.pushed (ones es)
  numbered_in p [] l = tt
  numbered_in p (one (Push k x items) ∷ es) l = (l.0.0, numbered_in (next p (one (Push k x items))) es l.1)
  numbered_in p (one (SawAck a items) ∷ es) l = numbered_in (next p (one (SawAck a items))) es l.1
  numbered_in p (one (mutator.Learn c) ∷ es) l = numbered_in (next p (one (mutator.Learn c))) es l.1
  numbered_in p (two e ∷ es) l = numbered_in (next p (two e)) es l.1

  -- the pushes of a history are numbered
  pub numbered : (first : FastState) (ms : List (MutatorEvent P)) (os : List (ObserverEvent P)) → HasStateHistory first ms os → Numbered 0 ms
  numbered first ms os h = subst (Numbered 0) h.of_one (numbered_in (start_of_queue first) h.order h.is_legal)

  numbered_front : (n : ℕ) (xs ys : List (MutatorEvent P)) → Numbered n (xs ++ ys) → Numbered n xs
  numbered_front n [] ys r = tt
  numbered_front n (Push k x items ∷ xs) ys r = (r.0, numbered_front k xs ys r.1)
  numbered_front n (SawAck a items ∷ xs) ys r = numbered_front n xs ys r
  numbered_front n (mutator.Learn c ∷ xs) ys r = numbered_front n xs ys r

  numbered_back : (m : MutatorPoint P) (xs ys : List (MutatorEvent P)) → Numbered m.pushed (xs ++ ys) → Numbered (fold mutator_next m xs).pushed ys
  numbered_back m [] ys r = r
  numbered_back m (Push k x items ∷ xs) ys r = numbered_back (mutator_next m (Push k x items)) xs ys r.1
  numbered_back m (SawAck a items ∷ xs) ys r = numbered_back (mutator_next m (SawAck a items)) xs ys r
  numbered_back m (mutator.Learn c ∷ xs) ys r = numbered_back (mutator_next m (mutator.Learn c)) xs ys r

  -- pushes are never taken back
  pub no_fewer : (m : MutatorPoint P) (ms : List (MutatorEvent P)) → Numbered m.pushed ms → m.pushed ≤ (fold mutator_next m ms).pushed
  no_fewer m [] r = omega arith
  no_fewer m (Push k x items ∷ ms) r = let more = no_fewer (mutator_next m (Push k x items)) ms r.1 in let now = r.0 in omega (arith, more, now)
  no_fewer m (SawAck a items ∷ ms) r = no_fewer (mutator_next m (SawAck a items)) ms r
  no_fewer m (mutator.Learn c ∷ ms) r = no_fewer (mutator_next m (mutator.Learn c)) ms r

  -- events with no push push nothing more
  pub none_more : (m : MutatorPoint P) (ms : List (MutatorEvent P)) → list_any is_push ms ≡ false → (fold mutator_next m ms).pushed ≡ m.pushed
  none_more m [] h = refl
  none_more m (Push k x items ∷ ms) h = absurd (true≢false h)
  none_more m (SawAck a items ∷ ms) h = none_more (mutator_next m (SawAck a items)) ms h
  none_more m (mutator.Learn c ∷ ms) h = none_more (mutator_next m (mutator.Learn c)) ms h

  -- the last state pushed is the same at both points
  pub record SameLast (m n : MutatorPoint P) : Type 0 where
    pub pushed : n.pushed ≡ m.pushed
    pub last : n.last ≡ m.last
    pub before : n.before ≡ m.before
    pub items : n.items ≡ m.items

  still_last : (m : MutatorPoint P) (ms : List (MutatorEvent P)) → Numbered m.pushed ms → (fold mutator_next m ms).pushed ≡ m.pushed → SameLast m (fold mutator_next m ms)
  still_last m [] r e = record { pushed = refl; last = refl; before = refl; items = refl }
  still_last m (Push k x items ∷ ms) r e = absurd (let more = no_fewer (mutator_next m (Push k x items)) ms r.1 in let now = r.0 in omega (arith, more, now, e))
  still_last m (SawAck a items ∷ ms) r e = let s = still_last (mutator_next m (SawAck a items)) ms r e in record { pushed = s.pushed; last = s.last; before = s.before; items = s.items }
  still_last m (mutator.Learn c ∷ ms) r e = let s = still_last (mutator_next m (mutator.Learn c)) ms r e in record { pushed = s.pushed; last = s.last; before = s.before; items = s.items }

  -- ## Two beginnings

  then_more : (first : FastState) (xs ys : List (MutatorEvent P)) → mutated first (xs ++ ys) ≡ fold mutator_next (mutated first xs) ys
  then_more first xs ys = fold-append mutator_next (mutator_start first) xs ys

  pub no_fewer_then : (first : FastState) (xs ys : List (MutatorEvent P)) → Numbered 0 (xs ++ ys) → (mutated first xs).pushed ≤ (mutated first (xs ++ ys)).pushed
  no_fewer_then first xs ys r =
      let more = no_fewer (mutated first xs) ys (numbered_back (mutator_start first) xs ys r) in
      let all = ap (λ (m : MutatorPoint P). m.pushed) (then_more first xs ys) in
      omega (arith, more, all)

  pub none_more_then : (first : FastState) (xs ys : List (MutatorEvent P)) → list_any is_push ys ≡ false → (mutated first (xs ++ ys)).pushed ≡ (mutated first xs).pushed
  none_more_then first xs ys none = ap (λ (m : MutatorPoint P). m.pushed) (then_more first xs ys) ∙ none_more (mutated first xs) ys none

  -- a push has the next number
  pub push_number : (first : FastState) (xs ys : List (MutatorEvent P)) (k : ℕ) (x : FastState) (items : List (Option P)) → Numbered 0 (xs ++ Push k x items ∷ ys) → k ≡ (mutated first xs).pushed + 1
  push_number first xs ys k x items r = (numbered_back (mutator_start first) xs (Push k x items ∷ ys) r).0

  pub push_counts : (first : FastState) (xs : List (MutatorEvent P)) (k : ℕ) (x : FastState) (items : List (Option P)) → (mutated first (xs ++ Push k x items ∷ [])).pushed ≡ k
  push_counts first xs k x items = ap (λ (m : MutatorPoint P). m.pushed) (then_more first xs (Push k x items ∷ []))

  same_then : (first : FastState) (xs ys : List (MutatorEvent P)) → Numbered 0 (xs ++ ys) → (mutated first (xs ++ ys)).pushed ≡ (mutated first xs).pushed → SameLast (mutated first xs) (mutated first (xs ++ ys))
  same_then first xs ys r e = subst (SameLast (mutated first xs)) (sym (then_more first xs ys))
      (still_last (mutated first xs) ys (numbered_back (mutator_start first) xs ys r) (ap (λ (m : MutatorPoint P). m.pushed) (sym (then_more first xs ys)) ∙ e))

  -- if two beginnings push as much, they push the same last
  pub same_last : (first : FastState) (all xs us ys vs : List (MutatorEvent P)) → Numbered 0 all → all ≡ xs ++ us → all ≡ ys ++ vs → (mutated first ys).pushed ≡ (mutated first xs).pushed → SameLast (mutated first xs) (mutated first ys)
  same_last first all xs us ys vs r a b e = elim (either_cuts xs us ys vs (sym a ∙ b)) as (λ _. SameLast (mutated first xs) (mutated first ys)) [
    | inl c ↦
        let long : Numbered 0 (xs ++ c.between) = subst (Numbered 0) c.longer (numbered_front 0 ys vs (subst (Numbered 0) b r)) in
        subst (λ (l : List (MutatorEvent P)). SameLast (mutated first xs) (mutated first l)) (sym c.longer)
        (same_then first xs c.between long (ap (λ (l : List (MutatorEvent P)). (mutated first l).pushed) (sym c.longer) ∙ e))
    | inr c ↦
        let long : Numbered 0 (ys ++ c.between) = subst (Numbered 0) c.longer (numbered_front 0 xs us (subst (Numbered 0) a r)) in
        let s : SameLast (mutated first ys) (mutated first xs) = subst (λ (l : List (MutatorEvent P)). SameLast (mutated first ys) (mutated first l)) (sym c.longer)
        (same_then first ys c.between long (ap (λ (l : List (MutatorEvent P)). (mutated first l).pushed) (sym c.longer) ∙ sym e)) in
        record { pushed = sym s.pushed; last = sym s.last; before = sym s.before; items = sym s.items }
  ]

  -- the longer of two beginnings pushes as much or more
  pub longer_pushes : (first : FastState) (all xs us ys vs : List (MutatorEvent P)) → Numbered 0 all → all ≡ xs ++ us → all ≡ ys ++ vs → length xs ≤ length ys → (mutated first xs).pushed ≤ (mutated first ys).pushed
  longer_pushes first all xs us ys vs r a b few = elim (either_cuts xs us ys vs (sym a ∙ b)) as (λ _. (mutated first xs).pushed ≤ (mutated first ys).pushed) [
    | inl c ↦
        let more = no_fewer_then first xs c.between (subst (Numbered 0) c.longer (numbered_front 0 ys vs (subst (Numbered 0) b r))) in
        let same = ap (λ (l : List (MutatorEvent P)). (mutated first l).pushed) c.longer in
        omega (arith, more, same)
    | inr c ↦
        let none : c.between ≡ [] = empty c.between (let long = ap (λ (l : List (MutatorEvent P)). length l) c.longer in let sum = length-append ys c.between in omega (arith, long, sum, few)) in
        let same = ap (λ (l : List (MutatorEvent P)). (mutated first l).pushed) (c.longer ∙ ap (λ (l : List (MutatorEvent P)). ys ++ l) none ∙ append-nil ys) in
        omega (arith, same)
  ]
    where
      empty : (l : List (MutatorEvent P)) → length l ≡ 0 → l ≡ []
      empty [] e = refl
      empty (x ∷ l) e = absurd (omega (arith, e))
