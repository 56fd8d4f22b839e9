-- The report's cell between two meetings: a load has an order with the stores exactly if its number lies among theirs.
use Rattle.std.specs.Prelude.{◌↔◌}
use Rattle.std.proofs.Common.{◌≡◌, ℕ, zero, suc, ◌+◌, ◌-◌, ◌≤◌, List, [], ◌∷◌, length, map, fold, get_or, refl, sym, ap, ◌∙◌, subst, arith}
use Rattle.af_judge.proofs.Common.{CellPoint, Event, HasOrder, Legal, ReaderEvent, WriterEvent, point_after, legal_value, next_value, one, ones, two, twos}
use Rattle.af_model.specs.declared.newest.WriterEvent.TheVariants as writes
use Rattle.af_model.specs.declared.newest.ReaderEvent.TheVariants as reads

module _ {T : Type 0} where
  default_same : (l : List T) (i : ℕ) (d e : T) → suc i ≤ length l → get_or l i d ≡ get_or l i e
  default_same [] i d e h = absurd (omega (arith, h))
  default_same (y ∷ l) zero d e h = refl
  default_same (y ∷ l) (suc i) d e h = default_same l i d e (omega (arith, h))

  -- the values are stored
  abbrev pub stores : List T → List (WriterEvent T)
  stores values = map (λ x. writes.Store x) values

  -- the value of a number, from what the cell had on
  abbrev pub value_at : CellPoint T → List T → ℕ → T
  value_at p values number = get_or (p.value ∷ values) (number - p.number) p.value

  stores_only : (p : CellPoint T) (values : List T) → HasOrder legal_value next_value p (stores values) []
  stores_only p [] = record { order = []; is_legal = tt; of_one = refl; of_two = refl }
  stores_only p (x ∷ values) =
      let r = stores_only (next_value p (one (writes.Store x))) values in
      record { order = one (writes.Store x) ∷ r.order; is_legal = (tt, r.is_legal); of_one = ap (λ l. writes.Store x ∷ l) r.of_one; of_two = r.of_two }

  load_now : (p : CellPoint T) (values : List T) (number : ℕ) (value : T) → number ≡ p.number → value ≡ p.value → HasOrder legal_value next_value p (stores values) (reads.Load number value ∷ [])
  load_now p values number value is value_is =
      let r = stores_only (next_value p (two (reads.Load number value))) values in
      record { order = two (reads.Load number value) ∷ r.order; is_legal = ((is, value_is), r.is_legal); of_one = r.of_one; of_two = ap (λ l. reads.Load number value ∷ l) r.of_two }

  load_after : (p : CellPoint T) (values : List T) (above number : ℕ) (value : T) → number ≡ p.number + above → above ≤ length values → value ≡ get_or (p.value ∷ values) above p.value → HasOrder legal_value next_value p (stores values) (reads.Load number value ∷ [])
  load_after p values zero number value is few value_is = load_now p values number value (is ∙ (let e : p.number + 0 ≡ p.number = omega arith in e)) value_is
  load_after p [] (suc above) number value is few value_is = absurd (omega (arith, few))
  load_after p (x ∷ values) (suc above) number value is few value_is =
      let q = next_value p (one (writes.Store x)) in
      let e : p.number + suc above ≡ p.number + 1 + above = omega arith in
      let few' : above ≤ length values = omega (arith, few) in
      let r = load_after q values above number value (is ∙ e) few' (value_is ∙ default_same (x ∷ values) above p.value x (omega (arith, few'))) in
      record { order = one (writes.Store x) ∷ r.order; is_legal = (tt, r.is_legal); of_one = ap (λ l. writes.Store x ∷ l) r.of_one; of_two = r.of_two }

  -- what an order tells of its load
  record Loads (p : CellPoint T) (values : List T) (number : ℕ) (value : T) : Type 0 where
    above : ℕ
    is : number ≡ p.number + above
    few : above ≤ length values
    value_is : value ≡ get_or (p.value ∷ values) above p.value

  same_store : (x y : T) (xs ys : List (WriterEvent T)) → writes.Store x ∷ xs ≡ writes.Store y ∷ ys → (x ≡ y) × (xs ≡ ys)
  same_store x y xs ys e = (cc, cc)

  same_load : (m n : ℕ) (x y : T) (xs ys : List (ReaderEvent T)) → reads.Load m x ∷ xs ≡ reads.Load n y ∷ ys → (m ≡ n) × (x ≡ y)
  same_load m n x y xs ys e = (cc, cc)

  later_load : (p : CellPoint T) (x : T) (values : List T) (number : ℕ) (value : T) → Loads (next_value p (one (writes.Store x))) values number value → Loads p (x ∷ values) number value
  later_load p x values number value r =
      record {
        above = suc r.above;
        is = r.is ∙ (let e : p.number + 1 + r.above ≡ p.number + suc r.above = omega arith in e);
        few = (let h = r.few in omega (arith, h));
        value_is = r.value_is ∙ default_same (x ∷ values) r.above x p.value (let h = r.few in omega (arith, h));
      }

  from_order : (es : List (Event (WriterEvent T) (ReaderEvent T))) (p : CellPoint T) (values : List T) (number : ℕ) (value : T) → Legal legal_value next_value p es → ones es ≡ stores values → twos es ≡ reads.Load number value ∷ [] → Loads p values number value
  from_order [] p values number value l e f = let n : 0 ≡ 1 = ap length f in absurd (omega (arith, n))
  from_order (two (reads.Load m x) ∷ es) p values number value l e f =
      let same = same_load m number x value (twos es) [] f in
      record { above = 0; is = sym same.0 ∙ (l.0.0 ∙ (let z : p.number ≡ p.number + 0 = omega arith in z)); few = omega arith; value_is = sym same.1 ∙ l.0.1 }
  from_order (two (reads.Learn count) ∷ es) p values number value l e f = absurd (cc)
  from_order (one e1 ∷ es) p [] number value l e f = let n : suc (length (ones es)) ≡ 0 = ap length e in absurd (omega (arith, n))
  from_order (one (writes.Store y) ∷ es) p (x ∷ values) number value l e f =
      let same = same_store y x (ones es) (stores values) e in
      later_load p x values number value (from_order es (next_value p (one (writes.Store x))) values number value (subst (λ z. Legal legal_value next_value (next_value p (one (writes.Store z))) es) same.0 l.1) same.1 f)
  from_order (one (writes.Learn count) ∷ es) p (x ∷ values) number value l e f = absurd (cc)

  -- a load of a number with its value stands in an order with the stores exactly if the number is that of the value before them or of one of theirs
  pub load_exact : (p : CellPoint T) (values : List T) (number : ℕ) → HasOrder legal_value next_value p (stores values) (reads.Load number (value_at p values number) ∷ []) ↔ ((p.number ≤ number) × (number ≤ p.number + length values))
  load_exact p values number = (
    λ h. (let r = from_order h.order p values number (value_at p values number) h.is_legal h.of_one h.of_two in (omega (arith, r.is), omega (arith, r.is, r.few))),
    λ h. load_after p values (number - p.number) number (value_at p values number) (let a = h.0 in omega (arith, a)) (let a = h.1 in omega (arith, a)) refl,
  )

  -- without a load the stores stand in an order
  pub none_exact : (p : CellPoint T) (values : List T) → HasOrder legal_value next_value p (stores values) []
  none_exact p values = stores_only p values

  -- a load of any value has an order only with such a number
  pub load_within : (p : CellPoint T) (values : List T) (number : ℕ) (value : T) → HasOrder legal_value next_value p (stores values) (reads.Load number value ∷ []) → (p.number ≤ number) × (number ≤ p.number + length values)
  load_within p values number value h = let r = from_order h.order p values number value h.is_legal h.of_one h.of_two in (omega (arith, r.is), omega (arith, r.is, r.few))

  -- what the stores and loads of an order leave
  abbrev pub cell_left : CellPoint T → List T → List (ReaderEvent T) → CellPoint T
  cell_left p values loads = record { number = p.number + length values; value = fold (λ last x. x) p.value values; writes = p.writes + length values; reads = p.reads + length loads }

  no_store : (x : T) (xs : List (WriterEvent T)) → writes.Store x ∷ xs ≡ [] → ⊥
  no_store x xs e = let n : suc (length xs) ≡ 0 = ap length e in absurd (omega (arith, n))

  no_learn : (count : ℕ) (es ws : List (WriterEvent T)) (x : T) → writes.Learn count ∷ es ≡ writes.Store x ∷ ws → ⊥
  no_learn count es ws x e = absurd (cc)

  pub cell_after : (es : List (Event (WriterEvent T) (ReaderEvent T))) (p : CellPoint T) (values : List T) → ones es ≡ stores values → point_after legal_value next_value p es ≡ cell_left p values (twos es)
  cell_after [] p [] e = (λ j. let n : p.number ≡ p.number + 0 = omega arith in let w : p.writes ≡ p.writes + 0 = omega arith in let r : p.reads ≡ p.reads + 0 = omega arith in record { number = n j; value = p.value; writes = w j; reads = r j })
  cell_after [] p (x ∷ values) e = absurd (no_store x (stores values) (sym e))
  cell_after (one (writes.Store y) ∷ es) p [] e = absurd (no_store y (ones es) e)
  cell_after (one (writes.Store y) ∷ es) p (x ∷ values) e =
      let same = same_store y x (ones es) (stores values) e in
      let n : p.number + 1 + length values ≡ p.number + suc (length values) = omega arith in
      let w : p.writes + 1 + length values ≡ p.writes + suc (length values) = omega arith in
      cell_after es (next_value p (one (writes.Store y))) values same.1 ∙ (λ j. record { number = n j; value = fold (λ last x. x) (same.0 j) values; writes = w j; reads = p.reads + length (twos es) })
  cell_after (one (writes.Learn count) ∷ es) p [] e = absurd (let n : suc (length (ones es)) ≡ 0 = ap length e in let x : ⊥ = omega (arith, n) in x)
  cell_after (one (writes.Learn count) ∷ es) p (x ∷ values) e = absurd (no_learn count (ones es) (stores values) x e)
  cell_after (two b ∷ es) p values e =
      let r : p.reads + 1 + length (twos es) ≡ p.reads + suc (length (twos es)) = omega arith in
      cell_after es (next_value p (two b)) values e ∙ (λ j. record { number = p.number + length values; value = fold (λ last x. x) p.value values; writes = p.writes + length values; reads = r j })
