-- Acts that take or give all shelves at once.
use Rattle.std.proofs.Common.{◌≡◌, ℕ, zero, suc, ◌+◌, ◌<◌, List, [], ◌∷◌, ◌++◌, length, map, drop, set, get_or, refl, ap, ◌∙◌, arith, length-set}
use Rattle.af_stateq.proofs.Common.{Act, Valid, carried_after, chain, drop_at, gives, homes_after, keeps, rest, set_else, set_here, takes}
use mathlib.Core.Option as maybe
use lib.ListN.{get_elem?}
use Rattle.af_stateq.specs.declared.cell.Slot.{Slot}
use Rattle.af_stateq.specs.Shelved.{slots_from}

abbrev Homes : Type 0 → Type 0
Homes P = List (maybe.Option (Slot P))

begins_at : {A : Type 0} (l : List A) (k : ℕ) (a : A) (ds : List A) → drop k l ≡ a ∷ ds → (get_elem? l k ≡ maybe.some a) × (drop (suc k) l ≡ ds)
begins_at [] zero a ds e = absurd (cc)
begins_at [] (suc k) a ds e = absurd (cc)
begins_at (x ∷ xs) zero a ds e = (cc, cc)
begins_at (x ∷ xs) (suc k) a ds e = begins_at xs k a ds e

module _ {P : Type 0} where
  -- each of the slots xs is taken, the last one first
  abbrev pub takes_all : ℕ → List (Slot P) → Act (Slot P)
  takes_all k [] = keeps
  takes_all k (x ∷ xs) = chain (takes_all (suc k) xs) (takes k x)

  -- one slot is given for each of xs
  abbrev pub gives_all : List (Slot P) → Act (Slot P)
  gives_all [] = keeps
  gives_all (x ∷ xs) = chain gives (gives_all xs)

  pub carried_takes : (k : ℕ) (xs : List (Slot P)) (cs : List (ℕ × Slot P)) → carried_after cs (takes_all k xs) ≡ slots_from k xs ++ cs
  carried_takes k [] cs = refl
  carried_takes k (x ∷ xs) cs = ap (λ l. (k, x) ∷ l) (carried_takes (suc k) xs cs)

  -- a slot before those taken stays
  pub takes_else : (k : ℕ) (xs : List (Slot P)) (hs : Homes P) (cs : List (ℕ × Slot P)) (j : ℕ) → j < k → get_elem? (homes_after hs cs (takes_all k xs)) j ≡ get_elem? hs j
  takes_else k [] hs cs j lt = refl
  takes_else k (x ∷ xs) hs cs j lt = set_else (homes_after hs cs (takes_all (suc k) xs)) k j maybe.none (λ e. omega arith) ∙ takes_else (suc k) xs hs cs j (omega arith)

  pub length_takes : (k : ℕ) (xs : List (Slot P)) (hs : Homes P) (cs : List (ℕ × Slot P)) → length (homes_after hs cs (takes_all k xs)) ≡ length hs
  length_takes k [] hs cs = refl
  length_takes k (x ∷ xs) hs cs = length-set (homes_after hs cs (takes_all (suc k) xs)) k maybe.none ∙ length_takes (suc k) xs hs cs

  -- slots that lie at home can be taken
  pub takes_valid : (k : ℕ) (xs : List (Slot P)) (hs : Homes P) (cs : List (ℕ × Slot P)) → drop k hs ≡ map maybe.some xs → Valid hs cs (takes_all k xs)
  takes_valid k [] hs cs e = tt
  takes_valid k (x ∷ xs) hs cs e = let b = begins_at hs k (maybe.some x) (map maybe.some xs) e in (takes_valid (suc k) xs hs cs b.1, takes_else (suc k) xs hs cs k (omega arith) ∙ b.0)

  pub gives_valid : (xs : List (Slot P)) (hs : Homes P) (cs : List (ℕ × Slot P)) → Valid hs cs (gives_all xs)
  gives_valid [] hs cs = tt
  gives_valid (x ∷ xs) hs cs = (tt, gives_valid xs _ _)

  pub carried_gives : (k : ℕ) (xs : List (Slot P)) (cs : List (ℕ × Slot P)) → carried_after (slots_from k xs ++ cs) (gives_all xs) ≡ cs
  carried_gives k [] cs = refl
  carried_gives k (x ∷ xs) cs = carried_gives (suc k) xs cs

  -- a slot before those given stays
  pub gives_else : (k : ℕ) (xs : List (Slot P)) (hs : Homes P) (cs : List (ℕ × Slot P)) (j : ℕ) → j < k → get_elem? (homes_after hs (slots_from k xs ++ cs) (gives_all xs)) j ≡ get_elem? hs j
  gives_else k [] hs cs j lt = refl
  gives_else k (x ∷ xs) hs cs j lt = gives_else (suc k) xs (set hs k (maybe.some x)) cs j (omega arith) ∙ set_else hs k j (maybe.some x) (λ e. omega arith)

  pub length_gives : (k : ℕ) (xs : List (Slot P)) (hs : Homes P) (cs : List (ℕ × Slot P)) → length (homes_after hs (slots_from k xs ++ cs) (gives_all xs)) ≡ length hs
  length_gives k [] hs cs = refl
  length_gives k (x ∷ xs) hs cs = length_gives (suc k) xs (set hs k (maybe.some x)) cs ∙ length-set hs k (maybe.some x)

  -- slots that were given lie at home
  pub gives_home : (k : ℕ) (xs : List (Slot P)) (hs : Homes P) (cs : List (ℕ × Slot P)) → length hs ≡ k + length xs → drop k (homes_after hs (slots_from k xs ++ cs) (gives_all xs)) ≡ map maybe.some xs
  gives_home k [] hs cs e = none_left k hs (omega arith)
    where
      none_left : {A : Type 0} (n : ℕ) (l : List A) → length l ≡ n → drop n l ≡ []
      none_left zero [] f = refl
      none_left zero (x ∷ xs) f = absurd (omega arith)
      none_left (suc n) [] f = absurd (omega arith)
      none_left (suc n) (x ∷ xs) f = none_left n xs (omega arith)
  gives_home k (x ∷ xs) hs cs e =
      let h1 : Homes P = set hs k (maybe.some x) in
      let after : Homes P = homes_after h1 (slots_from (suc k) xs ++ cs) (gives_all xs) in
      let here : get_elem? after k ≡ maybe.some (maybe.some x) = gives_else (suc k) xs h1 cs k (omega arith) ∙ set_here hs k (maybe.some x) (omega arith) in
      drop_at after k (maybe.some x) here ∙ ap (λ l. maybe.some x ∷ l) (gives_home (suc k) xs h1 cs (length-set hs k (maybe.some x) ∙ (omega arith)))

  -- lists of held slots that begin with as many shelves have the same shelves
  pub same_shelves : (k : ℕ) (xs ys : List (Slot P)) (cs ds : List (ℕ × Slot P)) → length xs ≡ length ys → slots_from k xs ++ cs ≡ slots_from k ys ++ ds → (xs ≡ ys) × (cs ≡ ds)
  same_shelves k [] [] cs ds l e = (refl, e)
  same_shelves k [] (y ∷ ys) cs ds l e = absurd (omega arith)
  same_shelves k (x ∷ xs) [] cs ds l e = absurd (omega arith)
  same_shelves k (x ∷ xs) (y ∷ ys) cs ds l e =
      let t = same_shelves (suc k) xs ys cs ds (omega arith) (ap rest e) in
      let h : x ≡ y = ap (λ (z : List (ℕ × Slot P)). (get_or z 0 (0, x)).1) e in
      (λ i. h i ∷ t.0 i, t.1)
