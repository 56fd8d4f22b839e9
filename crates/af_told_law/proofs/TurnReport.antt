-- A load behind a meeting that told of all stores shows the last report stored.
use Rattle.std.proofs.Common.{◌≡◌, ℕ, suc, ◌+◌, ◌-◌, ◌≤◌, ◌==◌, Bool, false, if◌then◌else◌, fold, List, [], ◌∷◌, ◌++◌, length, refl, sym, ap, subst, ◌∙◌, arith}
use Rattle.af_told_law.proofs.Common.{Event, Legal, Load, ReaderEvent, Report, Store, WriterEvent, last_of, last_report, no_report, one, ones, report_of, slice_index_or, stores, two, twos}
use Rattle.af_model.specs.declared.newest.ReaderEvent.TheVariants as reads
use Rattle.af_model.specs.declared.newest.WriterEvent.TheVariants as writes
use Rattle.af_model.specs.NewestValue as newest
use Rattle.af_model.specs.NewestValue.{CellPoint}

abbrev Events : Type 0
Events = List (Event (WriterEvent Report) (ReaderEvent Report))

abbrev LegalFrom : CellPoint Report → Events → Type 0
LegalFrom p order = Legal newest.legal_value newest.next_value p order

-- what a load saw, at some point of a list of stores
pub record LoadsAt (p : CellPoint Report) (ws : List (WriterEvent Report)) (n : ℕ) (x : Report) : Type 0 where
  pub front : List (WriterEvent Report)
  pub back : List (WriterEvent Report)
  pub parts : ws ≡ front ++ back
  pub number : n ≡ p.number + stores front
  pub value : x ≡ last_of p.value front

-- what a load saw behind one event more of the writer
loads_after : (p : CellPoint Report) (w : WriterEvent Report) (ws : List (WriterEvent Report)) (n : ℕ) (x : Report) → LoadsAt (newest.next_value p (one w)) ws n x → LoadsAt p (w ∷ ws) n x
loads_after p (Store y) ws n x h = record { front = Store y ∷ h.front; back = h.back; parts = ap (λ (l : List (WriterEvent Report)). Store y ∷ l) h.parts; number = (let a = h.number in omega arith); value = h.value }
loads_after p (writes.Learn c) ws n x h = record { front = writes.Learn c ∷ h.front; back = h.back; parts = ap (λ (l : List (WriterEvent Report)). writes.Learn c ∷ l) h.parts; number = h.number; value = h.value }

head_is : (e d : ReaderEvent Report) (xs ys : List (ReaderEvent Report)) → e ∷ xs ≡ d ∷ ys → e ≡ d
head_is e d xs ys h = ap first h
  where
    first : List (ReaderEvent Report) → ReaderEvent Report
    first [] = e
    first (z ∷ zs) = z

tail_is : (e d : ReaderEvent Report) (xs ys : List (ReaderEvent Report)) → e ∷ xs ≡ d ∷ ys → xs ≡ ys
tail_is e d xs ys h = ap rest h
  where
    rest : List (ReaderEvent Report) → List (ReaderEvent Report)
    rest [] = []
    rest (z ∷ zs) = zs

-- the first event of the reader is the load
pub loads_first : (p : CellPoint Report) (order : Events) → LegalFrom p order → (n : ℕ) (x : Report) (behind : List (ReaderEvent Report)) → twos order ≡ Load n x ∷ behind → LoadsAt p (ones order) n x
loads_first p [] l n x behind is = absurd (omega (arith, ap length is))
loads_first p (one w ∷ order) l n x behind is = loads_after p w (ones order) n x (loads_first (newest.next_value p (one w)) order l.1 n x behind is)
loads_first p (two e ∷ order) l n x behind is =
    let may : (n ≡ p.number) × (x ≡ p.value) = subst (λ (d : ReaderEvent Report). newest.legal_value p (two d)) (head_is e (Load n x) (twos order) behind is) l.0 in
    record { front = []; back = ones order; parts = refl; number = (let a = may.0 in omega arith); value = may.1 }

-- a load behind a meeting that told of so many events of the writer
pub record LoadsBehind (p : CellPoint Report) (ws : List (WriterEvent Report)) (c n : ℕ) (x : Report) : Type 0 where
  pub at : LoadsAt p ws n x
  pub learnt : c ≤ p.writes + length at.front

pub loads_behind : (p : CellPoint Report) (order : Events) → LegalFrom p order → (early : List (ReaderEvent Report)) (c n : ℕ) (x : Report) (behind : List (ReaderEvent Report)) → twos order ≡ early ++ reads.Learn c ∷ Load n x ∷ behind → LoadsBehind p (ones order) c n x
loads_behind p [] l [] c n x behind is = absurd (omega (arith, ap length is))
loads_behind p [] l (e ∷ early) c n x behind is = absurd (omega (arith, ap length is))
loads_behind p (one w ∷ order) l early c n x behind is = after_one w (loads_behind (newest.next_value p (one w)) order l.1 early c n x behind is)
  where
    after_one : (w : WriterEvent Report) → LoadsBehind (newest.next_value p (one w)) (ones order) c n x → LoadsBehind p (w ∷ ones order) c n x
    after_one (Store y) h = record {
      at = record { front = Store y ∷ h.at.front; back = h.at.back; parts = ap (λ (l : List (WriterEvent Report)). Store y ∷ l) h.at.parts; number = (let a = h.at.number in omega arith); value = h.at.value };
      learnt = (let a = h.learnt in omega arith);
    }
    after_one (writes.Learn k) h = record {
      at = record { front = writes.Learn k ∷ h.at.front; back = h.at.back; parts = ap (λ (l : List (WriterEvent Report)). writes.Learn k ∷ l) h.at.parts; number = h.at.number; value = h.at.value };
      learnt = (let a = h.learnt in omega arith);
    }
loads_behind p (two e ∷ order) l [] c n x behind is =
    let told : c ≤ p.writes = subst (λ (d : ReaderEvent Report). newest.legal_value p (two d)) (head_is e (reads.Learn c) (twos order) (Load n x ∷ behind) is) l.0 in
    let rest = loads_first (newest.next_value p (two e)) order l.1 n x behind (tail_is e (reads.Learn c) (twos order) (Load n x ∷ behind) is) in
    record { at = record { front = rest.front; back = rest.back; parts = rest.parts; number = rest.number; value = rest.value }; learnt = omega arith }
loads_behind p (two e ∷ order) l (d ∷ early) c n x behind is =
    let h = loads_behind (newest.next_value p (two e)) order l.1 early c n x behind (tail_is e d (twos order) (early ++ reads.Learn c ∷ Load n x ∷ behind) is) in
    record { at = record { front = h.at.front; back = h.at.back; parts = h.at.parts; number = h.at.number; value = h.at.value }; learnt = h.learnt }

-- ## All stores stand in the front

-- no report is stored
abbrev pub NoStores : List (WriterEvent Report) → Type 0
NoStores [] = Unit {0}
NoStores (Store y ∷ ws) = ⊥
NoStores (writes.Learn c ∷ ws) = NoStores ws

none_stored : (ws : List (WriterEvent Report)) (x : Report) → NoStores ws → (stores ws ≡ 0) × (last_of x ws ≡ x)
none_stored [] x h = (refl, refl)
none_stored (Store y ∷ ws) x h = absurd h
none_stored (writes.Learn c ∷ ws) x h = none_stored ws x h

none_front : (front back : List (WriterEvent Report)) → NoStores (front ++ back) → NoStores front
none_front [] back h = tt
none_front (Store y ∷ front) back h = absurd h
none_front (writes.Learn c ∷ front) back h = none_front front back h

head_of : (w v : WriterEvent Report) (xs ys : List (WriterEvent Report)) → w ∷ xs ≡ v ∷ ys → (w ≡ v) × (xs ≡ ys)
head_of w v xs ys h = (ap first h, ap rest h)
  where
    first : List (WriterEvent Report) → WriterEvent Report
    first [] = w
    first (z ∷ zs) = z

    rest : List (WriterEvent Report) → List (WriterEvent Report)
    rest [] = []
    rest (z ∷ zs) = zs

pub all_stored : (first : Report) (early tail front back : List (WriterEvent Report)) → early ++ tail ≡ front ++ back → length early ≤ length front → NoStores tail → (stores front ≡ stores early) × (last_of first front ≡ last_of first early)
all_stored first [] tail front back is few none = none_stored front first (none_front front back (subst NoStores is none))
all_stored first (e ∷ early) tail [] back is few none = absurd (omega arith)
all_stored first (Store y ∷ early) tail (v ∷ front) back is few none =
    let h = head_of (Store y) v (early ++ tail) (front ++ back) is in
    let rest = all_stored y early tail front back h.1 (omega arith) none in
    (ap (λ (w : WriterEvent Report). stores (w ∷ front)) (sym h.0) ∙ ap suc rest.0, ap (λ (w : WriterEvent Report). last_of first (w ∷ front)) (sym h.0) ∙ rest.1)
all_stored first (writes.Learn c ∷ early) tail (v ∷ front) back is few none =
    let h = head_of (writes.Learn c) v (early ++ tail) (front ++ back) is in
    let rest = all_stored first early tail front back h.1 (omega arith) none in
    (ap (λ (w : WriterEvent Report). stores (w ∷ front)) (sym h.0) ∙ rest.0, ap (λ (w : WriterEvent Report). last_of first (w ∷ front)) (sym h.0) ∙ rest.1)

-- ## The report of a number

last_more : (r : Report) (reports : List Report) (first d : Report) → slice_index_or (r ∷ reports) (length reports) d ≡ fold (λ (last : Report) (report : Report). report) first (r ∷ reports)
last_more r [] first d = refl
last_more r (q ∷ reports) first d = last_more q reports r d

-- the report of as many as were stored is the last
pub last_told : (reports : List Report) → report_of reports (length reports) ≡ last_report reports
last_told [] = refl
last_told (r ∷ reports) =
    let place : suc (length reports) - 1 ≡ length reports = omega arith in
    let some : (suc (length reports) == 0) ≡ false = grind arith in
    ap (λ (b : Bool). if b then no_report else slice_index_or (r ∷ reports) (suc (length reports) - 1) (last_report (r ∷ reports))) some
    ∙ ap (λ (i : ℕ). slice_index_or (r ∷ reports) i (last_report (r ∷ reports))) place ∙ last_more r reports no_report (last_report (r ∷ reports))
