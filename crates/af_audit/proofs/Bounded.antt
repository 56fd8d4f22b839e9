-- No report shows more than the list of the server of its slot's track.
use Rattle.std.proofs.Common.{◌≡◌, inl, inr, ℕ, zero, suc, ◌≤◌, ◌==◌, ◌||◌, if◌then◌else◌, is_some, Bool, true, false, List, [], ◌∷◌, ◌++◌, fold, Some, refl, sym, ap, subst, arith}
use Rattle.af_audit.proofs.Common.{AllByRecursion, CycleEntry, EntrySeen, FastState, FastTrack, NormalKept, Report, Run, Session, SlotReport, carries, cases_lt, counted_look, cycle_beside, cycle_frames, entry_slot, get_or-map-range_with_len, get_or_past, known_of, last_report, last_used, length-map-range_with_len, listed, next_report, next_slot, no_report, no_slot, shows_slot, replicate, report_at, report_of, slice_index_or, slot_of, slot_report, slots, state_among, state_at, state_for, state_of, stream_of, with_cycle, with_cycles, with_looks, with_mix, with_poll}
use Rattle.std.specs.Prelude.{◌-◌}
use Rattle.af_audit.proofs.Older.{IsOlder}
use Rattle.af_audit.proofs.Growing.{grows_mix, run_told}
use Rattle.af_audit.proofs.Measure.{Measure, of_run, IsBounded}

index_all : (P : Report → Type 0) (xs : List Report) (k : ℕ) (d : Report) → AllByRecursion P xs → P d → P (slice_index_or xs k d)
index_all P [] k d all here = here
index_all P (x ∷ xs) zero d all here = all.0
index_all P (x ∷ xs) (suc k) d all here = index_all P xs k d all.1 here

last_all : (P : Report → Type 0) (xs : List Report) (d : Report) → AllByRecursion P xs → P d → P (fold (λ (last report : Report). report) d xs)
last_all P [] d all here = here
last_all P (x ∷ xs) d all here = last_all P xs x all.1 all.0

more_all : (P : Report → Type 0) (xs : List Report) (x : Report) → AllByRecursion P xs → P x → AllByRecursion P (xs ++ x ∷ [])
more_all P [] x all here = (here, tt)
more_all P (y ∷ xs) x all here = (all.0, more_all P xs x all.1 here)

pub weaker_all : (P Q : Report → Type 0) (xs : List Report) → ((r : Report) → P r → Q r) → AllByRecursion P xs → AllByRecursion Q xs
weaker_all P Q [] f all = tt
weaker_all P Q (x ∷ xs) f all = (f x all.0, weaker_all P Q xs f all.1)

-- no state pushed is newer than the draft
abbrev pub AllOlder : Session → Run → FastState → Type 0
AllOlder s run draft = (k : ℕ) → IsOlder (state_at (cycle_frames s) run.states k) draft

either_slot : (P : SlotReport → Type 0) (b : Bool) (r t : SlotReport) → (b ≡ true → P r) → P t → P (if b then r else t)
either_slot P true r t h g = h refl
either_slot P false r t h g = g

module _ (measure : Measure) where
  -- ## One report

  abbrev SlotBounded : FastState → (ℕ → ℕ) → ℕ → SlotReport → Type 0
  SlotBounded draft told i r = (r.generation ≤ (slot_of draft i).generation) × (r.generation ≡ (slot_of draft i).generation → measure.of_report r ≤ told (slot_of draft i).track)

  none_bounded : (draft : FastState) (told : ℕ → ℕ) (i : ℕ) (r : SlotReport) → r ≡ no_slot → SlotBounded draft told i r
  none_bounded draft told i r is = subst (SlotBounded draft told i) (sym is) (omega arith, λ e. omega arith)

  by_slots : (draft : FastState) (told : ℕ → ℕ) (r : Report) → ((i : ℕ) → SlotBounded draft told i (report_at r.slots i)) → IsBounded measure draft told r
  by_slots draft told r h = record { low = λ i. (h i).0; within = λ i. (h i).1 }

  no_bounded : (draft : FastState) (told : ℕ → ℕ) → IsBounded measure draft told no_report
  no_bounded draft told = by_slots draft told no_report (λ i. none_bounded draft told i (report_at no_report.slots i) (each slots i))
    where
      each : (n i : ℕ) → slice_index_or (replicate n no_slot) i no_slot ≡ no_slot
      each zero i = refl
      each (suc n) zero = refl
      each (suc n) (suc i) = each n i

  -- a report stays bounded by a newer draft, when more is shown
  pub bounded_more : (x y : FastState) (few more : ℕ → ℕ) (r : Report) → IsOlder x y → ((n : ℕ) → few n ≤ more n) → IsBounded measure x few r → IsBounded measure y more r
  bounded_more x y few more r older grows h = record {
    low = λ i. (let a = h.low i in let b = older.low i in omega (arith, a, b));
    within = λ i e. (let a = h.low i in let b = older.low i in
        let g : (slot_of x i).generation ≡ (slot_of y i).generation = omega (arith, a, b, e) in
        let same : (slot_of x i).track ≡ (slot_of y i).track = ap (λ (t : FastTrack). t.track) (older.same i g) in
        let within = h.within i (omega (arith, e, g)) in
        let now = grows (slot_of x i).track in
        subst (λ (n : ℕ). measure.of_report (slot_report_at i) ≤ more n) same (omega (arith, within, now)));
  }
    where
      slot_report_at : ℕ → SlotReport
      slot_report_at i = report_at r.slots i

  -- ## Reports

  abbrev pub AreBounded : FastState → Run → Type 0
  AreBounded draft run = AllByRecursion (IsBounded measure draft (of_run measure run)) run.reports

  -- the report that a turn loads is bounded
  pub report_bounded : (draft : FastState) (run : Run) (n : ℕ) → AreBounded draft run → IsBounded measure draft (of_run measure run) (report_of run.reports n)
  report_bounded draft run n all = by_test (n == 0)
    where
      by_test : (b : Bool) → IsBounded measure draft (of_run measure run) (if b then no_report else slice_index_or run.reports (n - 1) (last_report run.reports))
      by_test true = no_bounded draft (of_run measure run)
      by_test false = index_all (IsBounded measure draft (of_run measure run)) run.reports (n - 1) (last_report run.reports) all (last_all (IsBounded measure draft (of_run measure run)) run.reports no_report all (no_bounded draft (of_run measure run)))

  -- ## An entry

  module _ (s : Session) (draft : FastState) where
    next_bounded : (now : Run) (entry : CycleEntry) (before : List SlotReport) (i : ℕ) → AllOlder s now draft → IsOlder now.normal.draft draft → SlotBounded draft (of_run measure now) i (report_at before i) → SlotBounded draft (of_run measure now) i (next_slot s now entry before i)
    next_bounded now entry before i older own h =
        let x : FastState = state_for s now entry.state in
        let y : FastState = state_for s now (last_used now.entries) in
        let P = SlotBounded draft (of_run measure now) i in
        let o : IsOlder x draft = state_among s (λ (z : FastState). IsOlder z draft) now entry.state older own in
        let look : SlotReport = counted_look (cycle_frames s) (slot_of x i).generation (entry_slot entry i).seen (known_of (listed (stream_of now x i))) (if carries y i then report_at before i else no_slot) in
        either_slot P (is_some (state_of now.states entry.state) || shows_slot x entry i) (slot_report (cycle_frames s) (Some x) (Some y) entry (known_of (listed (stream_of now x i))) i (report_at before i)) (report_at before i)
        (λ b. either_slot P (carries x i) look (report_at before i)
        (λ carried. (o.low i, λ e. subst (λ (n : ℕ). measure.of_report look ≤ of_run measure now n) (ap (λ (t : FastTrack). t.track) (o.same i e)) (measure.reported (cycle_frames s) (slot_of x i).generation (entry_slot entry i).seen (listed (stream_of now x i)) (if carries y i then report_at before i else no_slot)))) h) h

    report_next : (now : Run) (entry : CycleEntry) → AllOlder s now draft → IsOlder now.normal.draft draft → IsBounded measure draft (of_run measure now) (last_report now.reports) → IsBounded measure draft (of_run measure now) (next_report s now entry)
    report_next now entry older own h = by_slots draft (of_run measure now) (next_report s now entry) each
      where
        each : (i : ℕ) → SlotBounded draft (of_run measure now) i (report_at (next_report s now entry).slots i)
        each i = elim (cases_lt i slots) as (λ x. SlotBounded draft (of_run measure now) i (report_at (next_report s now entry).slots i)) [
          | inl low ↦ subst (SlotBounded draft (of_run measure now) i) (sym (get_or-map-range_with_len (next_slot s now entry (last_report now.reports).slots) 0 slots i i no_slot low (omega arith))) (next_bounded now entry (last_report now.reports).slots i older own (h.low i, h.within i))
          | inr high ↦ none_bounded draft (of_run measure now) i (report_at (next_report s now entry).slots i) (get_or_past (next_report s now entry).slots i no_slot (let m = length-map-range_with_len (next_slot s now entry (last_report now.reports).slots) 0 slots in omega (arith, m, high)))
        ]

    pub bounded_mix : (e : EntrySeen) (run : Run) → AllOlder s run draft → IsOlder run.normal.draft draft → AreBounded draft run → AreBounded draft (with_mix s e run)
    unfolding with_mix
    bounded_mix e run older own all =
        let now : Run = with_looks s e run in
        let grown : AllByRecursion (IsBounded measure draft (of_run measure now)) run.reports = weaker_all (IsBounded measure draft (of_run measure run)) (IsBounded measure draft (of_run measure now)) run.reports
        (λ r. bounded_more draft draft (of_run measure run) (of_run measure now) r (record { low = λ i. omega arith; same = λ i g. refl }) (run_told measure run (with_mix s e run) (grows_mix s e run))) all in
        more_all (IsBounded measure draft (of_run measure now)) run.reports (next_report s now e.entry) grown
        (report_next now e.entry older own (last_all (IsBounded measure draft (of_run measure now)) run.reports no_report grown (no_bounded draft (of_run measure now))))

    pub bounded_cycle : (e : EntrySeen) (run : Run) → AllOlder s run draft → IsOlder run.normal.draft draft → AreBounded draft run → AreBounded draft (with_cycle s run e)
    unfolding with_poll
    bounded_cycle e run older own all = bounded_mix e (with_poll s e.entry.state run) older own all

    pub bounded_cycles : (es : List EntrySeen) (run : Run) → AllOlder s run draft → IsOlder run.normal.draft draft → AreBounded draft run → AreBounded draft (with_cycles s es run)
    bounded_cycles [] run older own all = all
    bounded_cycles (e ∷ es) run older own all =
        let b = cycle_beside s run e in
        bounded_cycles es (with_cycle s run e) (subst (λ (xs : List FastState). (k : ℕ) → IsOlder (state_at (cycle_frames s) xs k) draft) (sym b.states) older) (subst (λ (m : NormalKept). IsOlder m.draft draft) (sym b.normal) own) (bounded_cycle e run older own all)
