-- What an end holds after a look.
use Rattle.std.proofs.Common.{◌≡◌, ◌≢◌, ℕ, ◌+◌, ◌%◌, ◌==◌, ◌&&◌, not, Bool, true, false, List, [], ◌∷◌, ◌++◌, length, get_or, Some, ap, sym, ◌∙◌, subst, ne_eqb, ◌⊎◌, ⊎_elim}
use Rattle.af_stateq.proofs.Common.{AreOf, FitAt, SawNext, Step, and_false, rest, slots}
use Rattle.af_stateq.specs.declared.cell.Slot.{Slot}
use Rattle.af_stateq.specs.Shelved.{cell, word, shelves, items_on, nothing, brings, Seated, saw_ack, saw_next, HoldsNext, IsMutator, IsObserver}
use Rattle.af_stateq.proofs.Steps.{many}
use Rattle.af_stateq.proofs.Hands.{headed, this_cell}

module _ {P K : Type 0} (fits : K → ℕ → P → Type 0) (st : Step (Slot P)) (me me' : Seated P K) (n r : ℕ) (clear : Bool) (i : IsMutator me n clear) (l : saw_ack fits st me r me') where
  same_word : (r == word me.0.mutating.pushed) ≡ (r == word n)
  same_word = ap (λ (k : ℕ). r == word k) i.number

  kept : brings me.0.mutating r ≡ false → (r == word n) ≡ clear → IsMutator me' n clear
  kept none test = let e = l.4 none in let w = ap (λ m. m.0.mutating) e in record {
    mutates = ap (λ m. m.0.mutates) e ∙ i.mutates;
    alone = ap (λ m. m.0.observes) e ∙ i.alone;
    out = ap (λ m. m.out) w ∙ i.out;
    number = ap (λ m. m.pushed) w ∙ i.number;
    is_clear = ap (λ m. m.clear) w ∙ same_word ∙ test;
    begins = i.begins;
    holds = subst (HoldsNext clear n) (sym (ap (λ m. m.1) e)) i.holds;
  }

  -- it had the shelves, or the last state is not acknowledged
  pub kept_look : (clear ≡ true) ⊎ ((clear ≡ false) × (r ≢ word n)) → IsMutator me' n (r == word n)
  kept_look e = ⊎_elim
      (λ c. let test = sym same_word ∙ l.6 (i.is_clear ∙ c) in
      subst (λ b. IsMutator me' n b) (c ∙ sym test) (kept (ap (λ x. not x && (r == word me.0.mutating.pushed)) (i.is_clear ∙ c)) (test ∙ sym c)))
      (λ (c : (clear ≡ false) × (r ≢ word n)). let test = ne_eqb r (word n) c.1 in
      subst (λ b. IsMutator me' n b) (c.0 ∙ sym test) (kept (ap (λ x. not me.0.mutating.clear && x) (same_word ∙ test) ∙ and_false (not me.0.mutating.clear)) (test ∙ sym c.0))) e

module _ {P K : Type 0} (fits : K → ℕ → P → Type 0) (st : Step (Slot P)) (me me' : Seated P K) (n r : ℕ) (i : IsObserver me n false) (l : saw_next fits st me r me') (new : r ≢ word n) where
  -- the cell of the new state, and the shelves
  abbrev pub state_cell : Slot P
  state_cell = (l.1 (λ same. new (same ∙ ap word i.number))).0

  abbrev pub came : List (Slot P)
  came = (l.1 (λ same. new (same ∙ ap word i.number))).1

  pub took : (r ≡ word (me.0.observing.current + 1)) × AreOf state_cell.state me.0.observing.state (items_on came) × FitAt fits me.0.observing.key state_cell.state (items_on came)
      × (me' ≡ (record me.0 { observing = record me.0.observing { events = me.0.observing.events ++ SawNext (me.0.observing.current + 1) (Some state_cell.state) (items_on came) ∷ []; due = true; next = state_cell.state } }, shelves came ++ (cell (me.0.observing.current + 1), state_cell) ∷ me.1))
  took = let t = l.1 (λ same. new (same ∙ ap word i.number)) in (t.2, t.3, t.4, t.5)

  pub came_held : (length came ≡ slots) × (me'.1 ≡ shelves came ++ (n % 4, state_cell) ∷ me.1)
  came_held = (many came slots took.1.0, ap (λ m. m.1) took.3 ∙ ap (λ (k : ℕ). shelves came ++ (k, state_cell) ∷ me.1) (ap (λ (k : ℕ). cell (k + 1)) i.number ∙ this_cell n))

  -- where ys lie on the shelves now
  module _ (now : Seated P K) (ys : List (Slot P)) (same : now.0 ≡ me'.0) (held : now.1 ≡ ((n % 4, state_cell) ∷ me.1) ++ shelves ys) where
    pub seen_first : now.1 ≡ (n % 4, state_cell) ∷ rest now.1
    seen_first = headed now.1 (me.1 ++ shelves ys) (n % 4, state_cell) held

    -- the value in the first slot is the new state's cell
    pub seen_cell : (x : Slot P) → now.1 ≡ (n % 4, x) ∷ rest now.1 → x ≡ state_cell
    seen_cell x e = ap (λ (cs : List (ℕ × Slot P)). (get_or cs 0 (0, x)).1) (sym e ∙ held)

    pub seen_look : items_on ys ≡ nothing → IsObserver now n true
    seen_look empty = let v = same ∙ ap (λ m. m.0) took.3 in let w = ap (λ m. m.observing) v in record {
      observes = ap (λ m. m.observes) v ∙ i.observes;
      alone = ap (λ m. m.mutates) v ∙ i.alone;
      out = ap (λ o. o.out) w ∙ i.out;
      number = ap (λ o. o.current) w ∙ i.number;
      is_due = ap (λ o. o.due) w;
      holds = (state_cell, i.holds.0, i.holds.1, ys, empty, held ∙ ap (λ l. ((n % 4, state_cell) ∷ l) ++ shelves ys) i.holds.2 ∙ ap (λ (k : ℕ). (k, state_cell) ∷ (cell n, i.holds.0) ∷ (cell (n + 3), i.holds.1) ∷ shelves ys) (sym (this_cell n)));
    }
