-- The cycles of the reports that are stored, and of those that are loaded.
use Rattle.std.proofs.Common.{◌≡◌, ℕ, zero, suc, ◌<◌, ◌≤◌, max, List, [], ◌∷◌, ◌++◌, length, take, refl, sym, ap, ◌∙◌, subst, arith, append_assoc, length-append}
use Rattle.af_base.specs.declared.report.Report.{Report}
use Rattle.af_model.specs.declared.newest.WriterEvent.{WriterEvent}
use Rattle.af_model.specs.declared.newest.WriterEvent.TheVariants.{Store}
use Rattle.af_model.specs.declared.newest.WriterEvent.TheVariants as writes
use Rattle.af_model.specs.declared.newest.ReaderEvent.{ReaderEvent}
use Rattle.af_model.specs.declared.newest.ReaderEvent.TheVariants.{Load}
use Rattle.af_model.specs.declared.newest.ReaderEvent.TheVariants as reads
use Rattle.af_model.specs.Order.{Event, one, two, ones, twos, Legal}
use Rattle.af_model.specs.NewestValue.{CellPoint, start_value, legal_value, next_value, HasValueHistory}
use Rattle.af_latest.specs.Laws.{last_of}
use Rattle.af_link.specs.Reports.{no_report, last_cycle, Rises, CyclesNeverFall}

-- one later report more
pub rises_on : (first x : Report) (ws : List (WriterEvent Report)) → Rises first.cycle ws → (last_of first ws).cycle < x.cycle → Rises first.cycle (ws ++ Store x ∷ [])
rises_on first x [] r less = (less, tt)
rises_on first x (Store y ∷ ws) r less = (r.0, rises_on y x ws r.1 less)
rises_on first x (writes.Learn count ∷ ws) r less = rises_on first x ws r less

pub rises_met : (low count : ℕ) (ws : List (WriterEvent Report)) → Rises low ws → Rises low (ws ++ writes.Learn count ∷ [])
rises_met low count [] r = tt
rises_met low count (Store y ∷ ws) r = (r.0, rises_met y.cycle count ws r.1)
rises_met low count (writes.Learn c ∷ ws) r = rises_met low count ws r

-- ## Loads

first_low : (first : Report) (done rest : List (WriterEvent Report)) → Rises first.cycle (done ++ rest) → first.cycle ≤ (last_of first done).cycle
first_low first [] rest r = omega arith
first_low first (Store y ∷ done) rest r = let a = first_low y done rest r.1 in let b = r.0 in omega arith
first_low first (writes.Learn c ∷ done) rest r = first_low first done rest r

-- what was learnt of the events done so far is no later than their last report
learnt_low : (first : Report) (done rest : List (WriterEvent Report)) (m : ℕ) → m ≤ length done → Rises first.cycle (done ++ rest) → (last_of first (take m (done ++ rest))).cycle ≤ (last_of first done).cycle
learnt_low first [] rest zero le r = omega arith
learnt_low first [] rest (suc m) le r = absurd (omega arith)
learnt_low first (Store y ∷ done) rest zero le r = first_low first (Store y ∷ done) rest r
learnt_low first (Store y ∷ done) rest (suc m) le r = learnt_low y done rest m (omega arith) r.1
learnt_low first (writes.Learn c ∷ done) rest zero le r = first_low first done rest r
learnt_low first (writes.Learn c ∷ done) rest (suc m) le r = learnt_low first done rest m (omega arith) r

-- the next report is later than the last one
next_later : (first x : Report) (done rest : List (WriterEvent Report)) → Rises first.cycle (done ++ Store x ∷ rest) → (last_of first done).cycle < x.cycle
next_later first x [] rest r = r.0
next_later first x (Store y ∷ done) rest r = next_later y x done rest r.1
next_later first x (writes.Learn c ∷ done) rest r = next_later first x done rest r

pub last-store : (first x : Report) (done : List (WriterEvent Report)) → last_of first (done ++ Store x ∷ []) ≡ x
last-store first x [] = refl
last-store first x (Store y ∷ done) = last-store y x done
last-store first x (writes.Learn c ∷ done) = last-store first x done

last-learn : (first : Report) (c : ℕ) (done : List (WriterEvent Report)) → last_of first (done ++ writes.Learn c ∷ []) ≡ last_of first done
last-learn first c [] = refl
last-learn first c (Store y ∷ done) = last-learn y c done
last-learn first c (writes.Learn d ∷ done) = last-learn first c done

-- what the writer did so far begins its list, and its last report is the newest
record Newest (done : List (WriterEvent Report)) (p : CellPoint Report) : Type 0 where
  count_is : p.writes ≡ length done
  value_is : p.value ≡ last_of no_report done

loads_rise : (done : List (WriterEvent Report)) (p : CellPoint Report) (es : List (Event (WriterEvent Report) (ReaderEvent Report))) (low : ℕ) → Legal legal_value next_value p es → Newest done p → Rises 0 (done ++ ones es) → low ≤ p.value.cycle
    → CyclesNeverFall (done ++ ones es) low (twos es)
loads_rise done p [] low l n r h = tt
loads_rise done p (one (Store x) ∷ es) low l n r h =
    let same : (done ++ Store x ∷ []) ++ ones es ≡ done ++ Store x ∷ ones es = append_assoc done (Store x ∷ []) (ones es) in
    let later : p.value.cycle < x.cycle = subst (λ (y : Report). y.cycle < x.cycle) (sym n.value_is) (next_later no_report x done (ones es) r) in
    let now : Newest (done ++ Store x ∷ []) (next_value p (one (Store x))) =
    record { count_is = (let a = n.count_is in omega (arith, length-append done (Store x ∷ []))); value_is = sym (last-store no_report x done) } in
    subst (λ ws. CyclesNeverFall ws low (twos es)) same (loads_rise (done ++ Store x ∷ []) (next_value p (one (Store x))) es low l.1 now (subst (λ ws. Rises 0 ws) (sym same) r) (omega arith))
loads_rise done p (one (writes.Learn c) ∷ es) low l n r h =
    let same : (done ++ writes.Learn c ∷ []) ++ ones es ≡ done ++ writes.Learn c ∷ ones es = append_assoc done (writes.Learn c ∷ []) (ones es) in
    let now : Newest (done ++ writes.Learn c ∷ []) (next_value p (one (writes.Learn c))) =
    record { count_is = (let a = n.count_is in omega (arith, length-append done (writes.Learn c ∷ []))); value_is = n.value_is ∙ sym (last-learn no_report c done) } in
    subst (λ ws. CyclesNeverFall ws low (twos es)) same (loads_rise (done ++ writes.Learn c ∷ []) (next_value p (one (writes.Learn c))) es low l.1 now (subst (λ ws. Rises 0 ws) (sym same) r) h)
loads_rise done p (two (Load n x) ∷ es) low l k r h =
    let is : x.cycle ≡ p.value.cycle = ap (λ (y : Report). y.cycle) l.0.1 in
    (omega arith, loads_rise done (next_value p (two (Load n x))) es x.cycle l.1 (record { count_is = k.count_is; value_is = k.value_is }) r (omega arith))
loads_rise done p (two (reads.Learn c) ∷ es) low l n r h =
    let told : c ≤ length done = (let m = l.0 in let a = n.count_is in omega arith) in
    let less = learnt_low no_report done (ones es) c told r in
    let last : p.value.cycle ≡ (last_of no_report done).cycle = ap (λ (y : Report). y.cycle) n.value_is in
    loads_rise done (next_value p (two (reads.Learn c))) es (max low (last_cycle (take c (done ++ ones es)))) l.1 (record { count_is = n.count_is; value_is = n.value_is }) r (omega arith)

-- in a history of a cell whose reports rise no load shows an earlier cycle than one before it, or than what was learnt before it
pub cycles_never_fall : (ws : List (WriterEvent Report)) (rs : List (ReaderEvent Report)) → Rises 0 ws → HasValueHistory no_report ws rs → CyclesNeverFall ws 0 rs
cycles_never_fall ws rs rises h =
    subst (λ (q : List (WriterEvent Report) × List (ReaderEvent Report)). CyclesNeverFall q.0 0 q.1) (λ i. (h.of_one i, h.of_two i))
    (loads_rise [] (start_value no_report) h.order 0 h.is_legal (record { count_is = refl; value_is = refl }) (subst (λ ws. Rises 0 ws) (sym h.of_one) rises) (omega arith))
