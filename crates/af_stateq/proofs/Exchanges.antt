-- How far the items and the shelves have changed places.
use Rattle.std.proofs.Common.{◌≡◌, ℕ, suc, ◌+◌, ◌<◌, List, [], ◌∷◌, ◌++◌, length, set, get_or, Option, sym, refl, ap, ◌∙◌, arith, append_assoc, length-append, subst}
use Rattle.af_stateq.proofs.Common.{append-nil, get_or-append_seam, length-map, map-append, rest, set-append_seam}
use Rattle.af_stateq.specs.declared.cell.Slot.{Slot}
use Rattle.af_stateq.specs.Shelved.{cells, slots_from, shelves, items_on}

module _ {P : Type 0} where
  -- the shelves xs, which came before the slots cs, have taken the first i of the items
  pub record Exchanged (items : List (Option P)) (i : ℕ) (xs : List (Slot P)) (cs held : List (ℕ × Slot P)) (now : List (Option P)) : Type 0 where
    pub passed : List (Slot P)
    pub left : List (Slot P)
    pub filled : List (Slot P)
    pub waiting : List (Option P)
    pub shelves_are : xs ≡ passed ++ left
    pub so_far : (length passed ≡ i) × (length filled ≡ i)
    pub held_are : held ≡ slots_from (cells + i) left ++ (cs ++ shelves filled)
    pub items_were : items ≡ items_on filled ++ waiting
    pub items_are : now ≡ items_on passed ++ waiting

  slots_from-append : (k : ℕ) (xs ys : List (Slot P)) → slots_from k (xs ++ ys) ≡ slots_from k xs ++ slots_from (k + length xs) ys
  slots_from-append k [] ys = ap (λ n. slots_from n ys) (omega arith)
  slots_from-append k (x ∷ xs) ys = ap (λ l. (k, x) ∷ l) (slots_from-append (suc k) xs ys ∙ ap (λ n. slots_from (suc k) xs ++ slots_from n ys) (omega arith))

  module _ (items : List (Option P)) (xs : List (Slot P)) (cs held : List (ℕ × Slot P)) where
    -- at first none is exchanged
    pub at_first : held ≡ shelves xs ++ cs → Exchanged items 0 xs cs held items
    at_first e = record { passed = []; left = xs; filled = []; waiting = items; shelves_are = refl; so_far = (refl, refl); held_are = e ∙ ap (λ l. shelves xs ++ l) (sym (append-nil cs)); items_were = refl; items_are = refl }

    module _ (i : ℕ) (now : List (Option P)) where
      head_of : (passed left : List (Slot P)) (after : List (ℕ × Slot P)) → xs ≡ passed ++ left → length passed ≡ i → i < length xs → held ≡ slots_from (cells + i) left ++ after → (x : Slot P) × (held ≡ (cells + i, x) ∷ rest held)
      head_of passed [] after a l lt e = absurd (let n = ap length a ∙ length-append passed [] in omega arith)
      head_of passed (x ∷ left) after a l lt e = (x, e ∙ ap (λ z. (cells + i, x) ∷ z) (sym (ap rest e)))

      -- the next shelf is the first of the slots held
      pub next_shelf : Exchanged items i xs cs held now → i < length xs → (x : Slot P) × (held ≡ (cells + i, x) ∷ rest held)
      next_shelf s lt = head_of s.passed s.left (cs ++ shelves s.filled) s.shelves_are s.so_far.0 lt s.held_are

      one_more : (s : Exchanged items i xs cs held now) (left : List (Slot P)) (waiting : List (Option P)) → s.left ≡ left → s.waiting ≡ waiting → i < length xs → i < length now
          → (x y : Slot P) (p : Option P) (later : List (ℕ × Slot P)) → held ≡ (cells + i, x) ∷ rest held → p ≡ get_or now i p → y.item ≡ p → later ≡ rest held ++ (cells + i, y) ∷ [] → Exchanged items (i + 1) xs cs later (set now i x.item)
      one_more s [] waiting a b lt low x y p later h g w e = absurd (let n = ap length (s.shelves_are ∙ ap (λ l. s.passed ++ l) a) ∙ length-append s.passed [] in let m = s.so_far.0 in omega arith)
      one_more s (z ∷ left) [] a b lt low x y p later h g w e = absurd (let n = ap length (s.items_are ∙ ap (λ l. items_on s.passed ++ l) b) ∙ length-append (items_on s.passed) [] in let k = length-map s.passed (λ (t : Slot P). t.item) in let m = s.so_far.0 in omega arith)
      one_more s (z ∷ left) (q ∷ waiting) a b lt low x y p later h g w e =
          let held_is : held ≡ (cells + i, z) ∷ slots_from (suc (cells + i)) left ++ (cs ++ shelves s.filled) = s.held_are ∙ ap (λ l. slots_from (cells + i) l ++ (cs ++ shelves s.filled)) a in
          let x_is : x ≡ z = ap (λ (l : List (ℕ × Slot P)). (get_or l 0 (0, x)).1) (sym h ∙ held_is) in
          let now_is : now ≡ items_on s.passed ++ q ∷ waiting = s.items_are ∙ ap (λ l. items_on s.passed ++ l) b in
          let at : length (items_on s.passed) ≡ i = length-map s.passed (λ (t : Slot P). t.item) ∙ s.so_far.0 in
          let p_is : p ≡ q = g ∙ ap (λ l. get_or l i p) now_is ∙ ap (λ n. get_or (items_on s.passed ++ q ∷ waiting) n p) (sym at) ∙ get_or-append_seam (items_on s.passed) q waiting p in
          record {
            passed = s.passed ++ x ∷ [];
            left = left;
            filled = s.filled ++ y ∷ [];
            waiting = waiting;
            shelves_are = s.shelves_are ∙ ap (λ l. s.passed ++ l) a ∙ ap (λ t. s.passed ++ t ∷ left) (sym x_is) ∙ sym (append_assoc s.passed (x ∷ []) left);
            so_far = (length-append s.passed (x ∷ []) ∙ ap (λ n. n + 1) s.so_far.0, length-append s.filled (y ∷ []) ∙ ap (λ n. n + 1) s.so_far.1);
            held_are = e ∙ ap (λ l. rest l ++ (cells + i, y) ∷ []) held_is ∙ append_assoc (slots_from (suc (cells + i)) left) (cs ++ shelves s.filled) ((cells + i, y) ∷ []) ∙ ap (λ l. slots_from (suc (cells + i)) left ++ l) (append_assoc cs (shelves s.filled) ((cells + i, y) ∷ []))
                ∙ ap (λ n. slots_from n left ++ (cs ++ (shelves s.filled ++ (cells + i, y) ∷ []))) (omega arith) ∙ ap (λ l. slots_from (cells + (i + 1)) left ++ (cs ++ l)) (ap (λ n. shelves s.filled ++ (n, y) ∷ []) (ap (λ n. cells + n) (sym s.so_far.1)) ∙ sym (slots_from-append cells s.filled (y ∷ [])));
            items_were = s.items_were ∙ ap (λ l. items_on s.filled ++ l) b ∙ ap (λ t. items_on s.filled ++ t ∷ waiting) (sym (w ∙ p_is)) ∙ sym (append_assoc (items_on s.filled) (y.item ∷ []) waiting) ∙ ap (λ l. l ++ waiting) (sym (map-append (λ (t : Slot P). t.item) s.filled (y ∷ [])));
            items_are = ap (λ l. set l i x.item) now_is ∙ ap (λ n. set (items_on s.passed ++ q ∷ waiting) n x.item) (sym at) ∙ set-append_seam (items_on s.passed) q waiting x.item ∙ sym (append_assoc (items_on s.passed) (x.item ∷ []) waiting) ∙ ap (λ l. l ++ waiting) (sym (map-append (λ (t : Slot P). t.item) s.passed (x ∷ [])));
          }

      -- the next item and the next shelf change places, and the shelf goes behind the others
      pub exchange_one : Exchanged items i xs cs held now → i < length xs → i < length now → (x y : Slot P) (p v : Option P) (later : List (ℕ × Slot P)) → held ≡ (cells + i, x) ∷ rest held → p ≡ get_or now i p → y.item ≡ p → v ≡ x.item → later ≡ rest held ++ (cells + i, y) ∷ [] → Exchanged items (i + 1) xs cs later (set now i v)
      exchange_one s lt low x y p v later h g w t e = subst (λ (o : Option P). Exchanged items (i + 1) xs cs later (set now i o)) (sym t) (one_more s s.left s.waiting refl refl lt low x y p later h g w e)

    none_left : {A : Type 0} (ds bs : List A) → length (ds ++ bs) ≡ length ds → bs ≡ []
    none_left ds [] e = refl
    none_left ds (b ∷ bs) e = absurd (let n = length-append ds (b ∷ bs) in omega arith)

    -- at last all are exchanged
    pub at_last : (i : ℕ) (now : List (Option P)) → Exchanged items i xs cs held now → length xs ≡ i → length items ≡ i → (ys : List (Slot P)) × (items_on ys ≡ items) × (held ≡ cs ++ shelves ys) × (now ≡ items_on xs)
    at_last i now s all long =
        let no_left : s.left ≡ [] = none_left s.passed s.left (ap length (sym s.shelves_are) ∙ all ∙ sym s.so_far.0) in
        let filled_long : length (items_on s.filled) ≡ i = length-map s.filled (λ (t : Slot P). t.item) ∙ s.so_far.1 in
        let no_waiting : s.waiting ≡ [] = none_left (items_on s.filled) s.waiting (ap length (sym s.items_were) ∙ long ∙ sym filled_long) in
        let passed_is : xs ≡ s.passed = s.shelves_are ∙ ap (λ l. s.passed ++ l) no_left ∙ append-nil s.passed in (
          s.filled,
          sym (append-nil (items_on s.filled)) ∙ ap (λ l. items_on s.filled ++ l) (sym no_waiting) ∙ sym s.items_were,
          s.held_are ∙ ap (λ l. slots_from (cells + i) l ++ (cs ++ shelves s.filled)) no_left,
          s.items_are ∙ ap (λ l. items_on s.passed ++ l) no_waiting ∙ append-nil (items_on s.passed) ∙ ap items_on (sym passed_is),
        )
