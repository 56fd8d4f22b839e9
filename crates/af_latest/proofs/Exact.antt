-- A load whose reader has learnt of all that the writer did shows the last value stored.
use Rattle.std.proofs.Common.{◌≡◌, ℕ, ◌+◌, ◌≤◌, List, [], ◌∷◌, ◌++◌, length, refl, ap, sym, ◌∙◌, subst, arith, length-append, get_or}
use Rattle.af_model.specs.declared.newest.WriterEvent.{WriterEvent}
use Rattle.af_model.specs.declared.newest.WriterEvent.TheVariants.{Store}
use Rattle.af_model.specs.declared.newest.WriterEvent.TheVariants as writes
use Rattle.af_model.specs.declared.newest.ReaderEvent.{ReaderEvent}
use Rattle.af_model.specs.declared.newest.ReaderEvent.TheVariants.{Load}
use Rattle.af_model.specs.declared.newest.ReaderEvent.TheVariants as reads
use Rattle.af_model.specs.Order.{Event, one, two, ones, Legal, point_after}
use Rattle.af_model.proofs.Splits.{split_at, ones_append, legal_at}
use Rattle.af_model.specs.NewestValue.{CellPoint, start_value, legal_value, next_value, HasValueHistory}
use Rattle.af_latest.specs.Laws.{last_of, stores}

module _ {T : Type 0} where
  after_number : (p : CellPoint T) (es : List (Event (WriterEvent T) (ReaderEvent T))) → (point_after legal_value next_value p es).number ≡ p.number + stores (ones es)
  after_number p [] = omega arith
  after_number p (one (Store x) ∷ es) = let e = after_number (next_value p (one (Store x))) es in omega arith
  after_number p (one (writes.Learn c) ∷ es) = after_number (next_value p (one (writes.Learn c))) es
  after_number p (two e ∷ es) = after_number (next_value p (two e)) es

  after_value : (p : CellPoint T) (es : List (Event (WriterEvent T) (ReaderEvent T))) → (point_after legal_value next_value p es).value ≡ last_of p.value (ones es)
  after_value p [] = refl
  after_value p (one (Store x) ∷ es) = after_value (next_value p (one (Store x))) es
  after_value p (one (writes.Learn c) ∷ es) = after_value (next_value p (one (writes.Learn c))) es
  after_value p (two e ∷ es) = after_value (next_value p (two e)) es

  after_writes : (p : CellPoint T) (es : List (Event (WriterEvent T) (ReaderEvent T))) → (point_after legal_value next_value p es).writes ≡ p.writes + length (ones es)
  after_writes p [] = omega arith
  after_writes p (one (Store x) ∷ es) = let e = after_writes (next_value p (one (Store x))) es in omega arith
  after_writes p (one (writes.Learn c) ∷ es) = let e = after_writes (next_value p (one (writes.Learn c))) es in omega arith
  after_writes p (two e ∷ es) = after_writes (next_value p (two e)) es

  tail_of : List (WriterEvent T) → List (WriterEvent T)
  tail_of [] = []
  tail_of (x ∷ xs) = xs

  stores_append : (xs ys : List (WriterEvent T)) → stores (xs ++ ys) ≡ stores xs + stores ys
  stores_append [] ys = omega arith
  stores_append (Store x ∷ xs) ys = let e = stores_append xs ys in omega arith
  stores_append (writes.Learn c ∷ xs) ys = stores_append xs ys

  last_append : (x : T) (xs ys : List (WriterEvent T)) → stores ys ≡ 0 → last_of x (xs ++ ys) ≡ last_of x xs
  last_append x [] [] e = refl
  last_append x [] (Store y ∷ ys) e = absurd (omega arith)
  last_append x [] (writes.Learn c ∷ ys) e = last_append x [] ys e
  last_append x (Store y ∷ xs) ys e = last_append y xs ys e
  last_append x (writes.Learn c ∷ xs) ys e = last_append x xs ys e

  more_stores : (z : WriterEvent T) (xs zs : List (WriterEvent T)) → stores xs ≤ stores zs → stores (z ∷ xs) ≤ stores (z ∷ zs)
  more_stores (Store y) xs zs h = omega arith
  more_stores (writes.Learn c) xs zs h = h

  -- a longer beginning has no fewer stores
  prefix_stores : (zs us xs ys : List (WriterEvent T)) → zs ++ us ≡ xs ++ ys → length xs ≤ length zs → stores xs ≤ stores zs
  unfolding tail_of
  prefix_stores zs us [] ys e h = omega arith
  prefix_stores [] us (x ∷ xs) ys e h = absurd (omega arith)
  prefix_stores (z ∷ zs) us (x ∷ xs) ys e h =
      let same : z ≡ x = ap (λ (l : List (WriterEvent T)). get_or l 0 z) e in
      subst (λ w. stores (w ∷ xs) ≤ stores (z ∷ zs)) same (more_stores z xs zs (prefix_stores zs us xs ys (ap tail_of e) (omega arith)))

  -- the writer stored nothing after the events xs, of which the reader has learnt
  pub exact : (first : T) (ws xs ys : List (WriterEvent T)) (rs : List (ReaderEvent T)) (c n : ℕ) (x : T) → HasValueHistory first ws ((rs ++ reads.Learn c ∷ []) ++ Load n x ∷ []) → ws ≡ xs ++ ys → length xs ≤ c → stores ys ≡ 0
      → (n ≡ stores ws) × (x ≡ last_of first ws)
  exact first ws xs ys rs c n x h parts told none =
      let s = split_at h.order (rs ++ reads.Learn c ∷ []) (Load n x) [] h.of_two in
      let es : List (Event (WriterEvent T) (ReaderEvent T)) = s.before in
      let l = legal_at legal_value next_value (start_value first) es (two (Load n x)) s.behind (subst (Legal legal_value next_value (start_value first)) s.whole h.is_legal) in
      let t = split_at es rs (reads.Learn c) [] s.first in
      let k = legal_at legal_value next_value (start_value first) t.before (two (reads.Learn c)) t.behind (subst (Legal legal_value next_value (start_value first)) t.whole l.0) in
      let zs : List (WriterEvent T) = ones es in
      let us : List (WriterEvent T) = ones s.behind in
      let all : zs ++ us ≡ ws = sym (ones_append es (two (Load n x) ∷ s.behind)) ∙ ap ones (sym s.whole) ∙ h.of_one in
      let inner : zs ≡ ones t.before ++ ones t.behind = ap ones t.whole ∙ ones_append t.before (two (reads.Learn c) ∷ t.behind) in
      let counted = after_writes (start_value first) t.before in
      let sum = ap length inner ∙ length-append (ones t.before) (ones t.behind) in
      let enough : length xs ≤ length zs = (let learnt = k.1 in omega arith) in
      let lower = prefix_stores zs us xs ys (all ∙ parts) enough in
      let total_1 = sym (stores_append zs us) ∙ ap stores all in
      let total_2 = ap stores parts ∙ stores_append xs ys in
      let rest_none : stores us ≡ 0 = omega arith in
      let number = after_number (start_value first) es in
      let value = after_value (start_value first) es in
      ((let e = l.1.0 in omega arith), l.1.1 ∙ value ∙ sym (last_append first zs us rest_none) ∙ ap (last_of first) all)

  pub last_store : (x : T) (ws : List (WriterEvent T)) (v : T) (k : ℕ) → last_of x ((ws ++ Store v ∷ []) ++ writes.Learn k ∷ []) ≡ v
  last_store x [] v k = refl
  last_store x (Store y ∷ ws) v k = last_store y ws v k
  last_store x (writes.Learn c ∷ ws) v k = last_store x ws v k
