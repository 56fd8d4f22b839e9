-- In a history no load is older than one before it, or than what was learnt before it.
use Rattle.std.proofs.Common.{◌≡◌, ℕ, zero, suc, ◌+◌, ◌≤◌, max, List, [], ◌∷◌, ◌++◌, length, refl, ap, ◌∙◌, subst, arith, append_assoc}
use Rattle.af_model.specs.declared.newest.WriterEvent.{WriterEvent}
use Rattle.af_model.specs.declared.newest.WriterEvent.TheVariants.{Store}
use Rattle.af_model.specs.declared.newest.WriterEvent.TheVariants as writes
use Rattle.af_model.specs.declared.newest.ReaderEvent.{ReaderEvent}
use Rattle.af_model.specs.declared.newest.ReaderEvent.TheVariants.{Load}
use Rattle.af_model.specs.declared.newest.ReaderEvent.TheVariants as reads
use Rattle.af_model.specs.Order.{Event, one, two, ones, twos, Legal}
use Rattle.af_model.specs.NewestValue.{CellPoint, start_value, legal_value, next_value, HasValueHistory}
use Rattle.af_latest.specs.Laws.{stored_by, NeverOlder}

module _ {T : Type 0} where
  stored_zero : (ws : List (WriterEvent T)) → stored_by ws 0 ≡ 0
  stored_zero [] = refl
  stored_zero (Store x ∷ ws) = refl
  stored_zero (writes.Learn c ∷ ws) = refl

  stored_more : (ws : List (WriterEvent T)) (j k : ℕ) → j ≤ k → stored_by ws j ≤ stored_by ws k
  stored_more [] j k h = omega arith
  stored_more (Store x ∷ ws) zero k h = omega arith
  stored_more (Store x ∷ ws) (suc j) zero h = omega arith
  stored_more (Store x ∷ ws) (suc j) (suc k) h = let m = stored_more ws j k (omega arith) in omega arith
  stored_more (writes.Learn c ∷ ws) zero k h = omega arith
  stored_more (writes.Learn c ∷ ws) (suc j) zero h = omega arith
  stored_more (writes.Learn c ∷ ws) (suc j) (suc k) h = stored_more ws j k (omega arith)

  -- one event more
  store_counts : (done vs : List (WriterEvent T)) (x : T) → stored_by (done ++ Store x ∷ vs) (suc (length done)) ≡ stored_by (done ++ Store x ∷ vs) (length done) + 1
  store_counts [] vs x = ap (λ k. k + 1) (stored_zero vs)
  store_counts (Store y ∷ done) vs x = ap (λ k. k + 1) (store_counts done vs x)
  store_counts (writes.Learn c ∷ done) vs x = store_counts done vs x

  learn_counts : (done vs : List (WriterEvent T)) (d : ℕ) → stored_by (done ++ writes.Learn d ∷ vs) (suc (length done)) ≡ stored_by (done ++ writes.Learn d ∷ vs) (length done)
  learn_counts [] vs d = stored_zero vs
  learn_counts (Store y ∷ done) vs d = ap (λ k. k + 1) (learn_counts done vs d)
  learn_counts (writes.Learn c ∷ done) vs d = learn_counts done vs d

  longer : (done : List (WriterEvent T)) (e : WriterEvent T) → length (done ++ e ∷ []) ≡ suc (length done)
  longer [] e = refl
  longer (x ∷ done) e = ap suc (longer done e)

  rises : (done : List (WriterEvent T)) (p : CellPoint T) (es : List (Event (WriterEvent T) (ReaderEvent T))) (low : ℕ) → Legal legal_value next_value p es → p.writes ≡ length done → stored_by (done ++ ones es) (length done) ≡ p.number → low ≤ p.number → NeverOlder (done ++ ones es) low (twos es)
  rises done p [] low l at is h = tt
  rises done p (one (Store x) ∷ es) low l at is h =
      let same : (done ++ Store x ∷ []) ++ ones es ≡ done ++ Store x ∷ ones es = append_assoc done (Store x ∷ []) (ones es) in
      let count : stored_by ((done ++ Store x ∷ []) ++ ones es) (length (done ++ Store x ∷ [])) ≡ p.number + 1
      = ap (λ ws. stored_by ws (length (done ++ Store x ∷ []))) same ∙ ap (stored_by (done ++ Store x ∷ ones es)) (longer done (Store x)) ∙ store_counts done (ones es) x ∙ ap (λ k. k + 1) is in
      subst (λ ws. NeverOlder ws low (twos es)) same (rises (done ++ Store x ∷ []) (next_value p (one (Store x))) es low l.1 (let m = longer done (Store x) in omega arith) count (omega arith))
  rises done p (one (writes.Learn c) ∷ es) low l at is h =
      let same : (done ++ writes.Learn c ∷ []) ++ ones es ≡ done ++ writes.Learn c ∷ ones es = append_assoc done (writes.Learn c ∷ []) (ones es) in
      let count : stored_by ((done ++ writes.Learn c ∷ []) ++ ones es) (length (done ++ writes.Learn c ∷ [])) ≡ p.number
      = ap (λ ws. stored_by ws (length (done ++ writes.Learn c ∷ []))) same ∙ ap (stored_by (done ++ writes.Learn c ∷ ones es)) (longer done (writes.Learn c)) ∙ learn_counts done (ones es) c ∙ is in
      subst (λ ws. NeverOlder ws low (twos es)) same (rises (done ++ writes.Learn c ∷ []) (next_value p (one (writes.Learn c))) es low l.1 (let m = longer done (writes.Learn c) in omega arith) count h)
  rises done p (two (Load n x) ∷ es) low l at is h = let e = l.0.0 in (omega arith, rises done (next_value p (two (Load n x))) es n l.1 at is (omega arith))
  rises done p (two (reads.Learn c) ∷ es) low l at is h =
      let told : c ≤ length done = (let m = l.0 in omega arith) in
      let less = stored_more (done ++ ones es) c (length done) told in
      rises done (next_value p (two (reads.Learn c))) es (max low (stored_by (done ++ ones es) c)) l.1 at is (omega arith)

  pub never_older : (first : T) (ws : List (WriterEvent T)) (rs : List (ReaderEvent T)) → HasValueHistory first ws rs → NeverOlder ws 0 rs
  never_older first ws rs h = subst (λ (q : List (WriterEvent T) × List (ReaderEvent T)). NeverOlder q.0 0 q.1) (λ i. (h.of_one i, h.of_two i))
      (rises [] (start_value first) h.order 0 h.is_legal refl (stored_zero (ones h.order)) (omega arith))
