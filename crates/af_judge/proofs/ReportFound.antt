-- The report that a turn of the normal mixer finds is the one that the judge has.
use Rattle.std.proofs.Common.{◌≡◌, ◌⊎◌, inl, inr, ℕ, suc, ◌+◌, ◌-◌, ◌<◌, ◌≤◌, ◌==◌, Bool, false, if◌then◌else◌, ne_eqb, refl, sym, ap, ◌∙◌, fold, List, [], ◌∷◌, ◌++◌, append_assoc, append-nil, length, take, drop, length-append, arith}
use Rattle.af_judge.proofs.Common.{CycleEntry, EntrySeen, Frame, Marks, Report, RoundSeen, Run, Session, Turn, before_turn, calls-entries, early_count, fold-append, found_in, get_or-append_right, get_or_append_left, get_or_default, get_or_past, last_report, late_of, length-map, length-take, max, min, next_report, no_report, report_of, slice_index_or, take-append-drop, take-map, take_all, with_calls, with_cycle, with_cycles, with_looks, with_mix, with_poll, within_or_beyond}
use Rattle.af_judge.specs.Entries.{AreNumbered}
use Rattle.af_judge.specs.EntriesTold.{Playing, entries_leave}
use Rattle.af_judge.proofs.Words.{AreFormed}
use Rattle.af_judge.specs.FastKept.{number_found}
use Rattle.af_judge.specs.Foresight.{Foreseen, entries_foreseen, foreseen, servers_at}
use Rattle.af_judge.proofs.EntriesFollow.{KeepsPlaying, cycles_entries, entries_in, entries_keep}
use Rattle.af_judge.proofs.ForeseenTold.{entries_foreseen_told}
use Rattle.af_judge.proofs.JournalEntries.{formed_front}

-- ## Lists of reports

last-at : (a x : Report) (xs more : List Report) (d : Report) → fold (λ (last : Report) (report : Report). report) a (x ∷ xs) ≡ slice_index_or ((x ∷ xs) ++ more) (length xs) d
last-at a x [] more d = refl
last-at a x (y ∷ xs) more d = last-at x y xs more d

-- the report of the number of those before others is the last one before them
pub report_at_end : (xs more : List Report) → report_of (xs ++ more) (length xs) ≡ last_report xs
report_at_end [] more = refl
report_at_end (x ∷ xs) more =
    let some : (suc (length xs) == 0) ≡ false = ne_eqb (suc (length xs)) 0 (λ e. omega (arith, e)) in
    let place : suc (length xs) - 1 ≡ length xs = omega arith in
    let all = (x ∷ xs) ++ more in
    ap (λ (b : Bool). if b then no_report else slice_index_or all (suc (length xs) - 1) (last_report all)) some
    ∙ (ap (λ (n : ℕ). slice_index_or all n (last_report all)) place ∙ sym (last-at no_report x xs more (last_report all)))

-- the report of a number is at the place before it
pub report_at_place : (xs : List Report) (n : ℕ) → 1 ≤ n → report_of xs n ≡ slice_index_or xs (n - 1) (last_report xs)
report_at_place xs n some = ap (λ (b : Bool). if b then no_report else slice_index_or xs (n - 1) (last_report xs)) (ne_eqb n 0 (λ e. omega (arith, some, e)))

-- behind the end it is the last one
pub report_behind : (xs : List Report) (n : ℕ) → length xs < n → report_of xs n ≡ last_report xs
report_behind xs n far = report_at_place xs n (omega (arith, far)) ∙ get_or_past xs (n - 1) (last_report xs) (omega (arith, far))

-- ## The reports of a run

record More (run after : Run) : Type 0 where
  more : List Report
  is : after.reports ≡ run.reports ++ more

cycle-reports : (s : Session) (run : Run) (e : EntrySeen) → More run (with_cycle s run e)
unfolding with_mix with_poll
cycle-reports s run e = let r = with_poll s e.entry.state run in record { more = next_report s (with_looks s e r) e.entry ∷ []; is = refl }

cycles-reports : (s : Session) (es : List EntrySeen) (run : Run) → More run (with_cycles s es run)
cycles-reports s [] run = record { more = []; is = sym (append-nil run.reports) }
cycles-reports s (e ∷ es) run =
    let one = cycle-reports s run e in
    let rest = cycles-reports s es (with_cycle s run e) in
    record { more = one.more ++ rest.more; is = rest.is ∙ (ap (λ (rs : List Report). rs ++ rest.more) one.is ∙ append_assoc run.reports one.more rest.more) }

cycles-split : (s : Session) (n : ℕ) (es : List EntrySeen) (run : Run) → with_cycles s es run ≡ with_cycles s (drop n es) (with_cycles s (take n es) run)
cycles-split s n es run =
    ap (λ (xs : List EntrySeen). with_cycles s xs run) (sym (take-append-drop n es))
    ∙ fold-append (λ (r : Run) (e : EntrySeen). with_cycle s r e) run (take n es) (drop n es)

-- ## The report that the judge has

-- the judge's report is the last one before the round, one of the round so far, or one after entries that are still to come
pub record IsReportTold (p : Playing) (run : Run) (late : List CycleEntry) (number : ℕ) (r : Report) : Type 0 where
  pub before : number ≤ p.fast.before.cycle → r ≡ p.fast.before
  pub ahead : p.fast.before.cycle < number → p.fast.told.report.cycle < number → r ≡ (entries_foreseen run.states (take (min (length late) (number - p.fast.told.report.cycle)) late) (foreseen (servers_at p.tracks) p.fast.told)).told.report
  pub told : p.fast.before.cycle < number → number ≤ p.fast.told.report.cycle → r ≡ slice_index_or p.fast.reports (number - p.fast.before.cycle - 1) p.fast.before

module _ (s : Session) (marks : Marks) (W : ℕ → Type 0) (earlier : List Report) (frames : List Frame) (p : Playing) (run : Run) (late : List EntrySeen) (place : ℕ) (formed : AreFormed frames place late) (keeps : KeepsPlaying s marks W earlier p run) where
  abbrev all : List Report
  all = (with_cycles s late run).reports

  -- the number of the last report is that of the entries
  cycle-is : p.fast.told.report.cycle ≡ length run.reports
  cycle-is = let f = keeps.fast in ap (λ (r : Report). r.cycle) f.report ∙ (f.numbered.cycle ∙ sym f.numbered.many)

  first-is : p.fast.before.cycle ≡ length earlier
  first-is = let f = keeps.fast in ap (λ (r : Report). r.cycle) f.before ∙ f.first

  -- ## A report before the round

  at-first : report_of all (length earlier) ≡ p.fast.before
  at-first =
      let f = keeps.fast in
      let m = cycles-reports s late run in
      ap (λ (rs : List Report). report_of rs (length earlier)) (m.is ∙ (ap (λ (rs : List Report). rs ++ m.more) f.reports ∙ append_assoc earlier p.fast.reports m.more))
      ∙ (report_at_end earlier (p.fast.reports ++ m.more) ∙ sym f.before)

  -- ## One of the round so far

  so-far : (number : ℕ) → length earlier < number → number ≤ length run.reports → report_of all number ≡ slice_index_or p.fast.reports (number - length earlier - 1) p.fast.before
  so-far number low high =
      let f = keeps.fast in
      let m = cycles-reports s late run in
      let many : length run.reports ≡ length earlier + length p.fast.reports = ap (λ (rs : List Report). length rs) f.reports ∙ length-append earlier p.fast.reports in
      let place : number - 1 - length earlier ≡ number - length earlier - 1 = omega arith in
      report_at_place all number (omega (arith, low))
      ∙ (ap (λ (rs : List Report). slice_index_or rs (number - 1) (last_report all)) m.is
      ∙ (get_or_append_left run.reports m.more (last_report all) (number - 1) (omega (arith, low, high))
      ∙ (ap (λ (rs : List Report). slice_index_or rs (number - 1) (last_report all)) f.reports
      ∙ (get_or-append_right earlier p.fast.reports (length earlier) (number - 1) (last_report all) refl (omega (arith, low))
      ∙ (ap (λ (n : ℕ). slice_index_or p.fast.reports n (last_report all)) place
      ∙ get_or_default p.fast.reports (number - length earlier - 1) (last_report all) p.fast.before (omega (arith, low, high, many)))))))

  -- ## One after entries that are still to come

  module _ (n : ℕ) where
    -- the run after so many of the late entries
    abbrev after : Run
    after = with_cycles s (take n late) run

    left : Playing
    left = entries_leave run.states frames (entries_in (take n late)) p

    keeps-left : KeepsPlaying s marks W earlier left after
    unfolding left
    keeps-left = entries_keep s marks W earlier frames (take n late) p run place (formed_front frames place n late formed) keeps

    told-left : (entries_foreseen run.states (take n (entries_in late)) (foreseen (servers_at p.tracks) p.fast.told)).told.report ≡ last_report after.reports
    unfolding left
    told-left =
        let k = keeps-left in
        let f = k.fast in
        ap (λ (xs : List CycleEntry). (entries_foreseen run.states xs (foreseen (servers_at p.tracks) p.fast.told)).told.report) (take-map (λ (e : EntrySeen). e.entry) n late)
        ∙ (ap (λ (g : Foreseen). g.told.report) (entries_foreseen_told run.states frames (entries_in (take n late)) p) ∙ f.report)

    long-left : length after.reports ≡ length run.reports + min n (length late)
    long-left =
        let k = keeps-left in
        let f = k.fast in
        let before = keeps.fast in
        let l = length-map (take n late) (λ (e : EntrySeen). e.entry) in
        let t = length-take n late in
        let a = length-append run.entries (entries_in (take n late)) in
        let e : length after.entries ≡ length (run.entries ++ entries_in (take n late)) = ap (λ (xs : List CycleEntry). length xs) (cycles_entries s (take n late) run) in
        let x = f.numbered.many in
        let y = before.numbered.many in
        omega (arith, l, t, a, e, x, y)

  still-to-come : (number n : ℕ) → length run.reports < number → n ≡ min (length late) (number - length run.reports) → report_of all number ≡ (entries_foreseen run.states (take n (entries_in late)) (foreseen (servers_at p.tracks) p.fast.told)).told.report
  still-to-come number n far count = by_count (within_or_beyond (number - length run.reports) (length late))
    where
      by_count : (number - length run.reports ≤ length late) ⊎ (length late < number - length run.reports) → report_of all number ≡ (entries_foreseen run.states (take n (entries_in late)) (foreseen (servers_at p.tracks) p.fast.told)).told.report
      by_count (inl inside) =
          let m = cycles-reports s (drop n late) (after n) in
          let long = long-left n in
          let is : number ≡ length (after n).reports = omega (arith, inside, far, long, count) in
          ap (λ (r : Run). report_of r.reports number) (cycles-split s n late run)
          ∙ (ap (λ (rs : List Report). report_of rs number) m.is
          ∙ (ap (report_of ((after n).reports ++ m.more)) is
          ∙ (report_at_end (after n).reports m.more ∙ sym (told-left n))))
      by_count (inr beyond) =
          let whole : take n late ≡ late = take_all n late (omega (arith, beyond, count)) in
          let long = long-left n in
          let same : (after n).reports ≡ all = ap (λ (xs : List EntrySeen). (with_cycles s xs run).reports) whole in
          let longer : length all ≡ length (after n).reports = ap (λ (rs : List Report). length rs) (sym same) in
          report_behind all number (omega (arith, beyond, far, long, longer, count)) ∙ (ap last_report (sym same) ∙ sym (told-left n))

  -- ## Whichever it is

  pub report_told : (number : ℕ) (r : Report) → IsReportTold p run (entries_in late) number r → r ≡ report_of all (max (length earlier) number)
  report_told number r told =
      let first = first-is in
      let cycle = cycle-is in
      let f = keeps.fast in
      let many : length run.reports ≡ length earlier + length p.fast.reports = ap (λ (rs : List Report). length rs) f.reports ∙ length-append earlier p.fast.reports in
      let long = length-map late (λ (e : EntrySeen). e.entry) in
      by_number first cycle many long (within_or_beyond number (length earlier)) (within_or_beyond number (length run.reports))
    where
      by_number : p.fast.before.cycle ≡ length earlier → p.fast.told.report.cycle ≡ length run.reports → length run.reports ≡ length earlier + length p.fast.reports → length (entries_in late) ≡ length late
          → (number ≤ length earlier) ⊎ (length earlier < number) → (number ≤ length run.reports) ⊎ (length run.reports < number) → r ≡ report_of all (max (length earlier) number)
      by_number first cycle many long (inl low) other =
          let at : length earlier ≡ max (length earlier) number = omega (arith, low) in
          told.before (omega (arith, low, first)) ∙ (sym at-first ∙ ap (report_of all) at)
      by_number first cycle many long (inr high) (inl low) =
          let at : number ≡ max (length earlier) number = omega (arith, high) in
          told.told (omega (arith, high, first)) (omega (arith, low, cycle))
          ∙ (ap (λ (n : ℕ). slice_index_or p.fast.reports (number - n - 1) p.fast.before) first ∙ (sym (so-far number high low) ∙ ap (report_of all) at))
      by_number first cycle many long (inr high) (inr far) =
          let at : number ≡ max (length earlier) number = omega (arith, high) in
          told.ahead (omega (arith, high, first)) (omega (arith, far, cycle))
          ∙ (ap (λ (n : ℕ). (entries_foreseen run.states (take n (entries_in late)) (foreseen (servers_at p.tracks) p.fast.told)).told.report) (λ i. min (long i) (number - cycle i))
          ∙ (sym (still-to-come number (min (length late) (number - length run.reports)) far refl) ∙ ap (report_of all) at))

-- ## In a round

-- what is told before the turn, with the late entries of the round still to come, is what the turn finds
pub report_found : (s : Session) (marks : Marks) (W : ℕ → Type 0) (frames : List Frame) (p : Playing) (run : Run) (round : RoundSeen) (place : ℕ) (e : Turn) (r : Report) → AreNumbered run → AreFormed frames place (late_of run round)
    → KeepsPlaying s marks W run.reports p (before_turn s run round) → IsReportTold p (before_turn s run round) (entries_in (late_of run round)) (number_found p.fast e.cycle) r → r ≡ (found_in s run round e).report
report_found s marks W frames p run round place e r numbered formed keeps told =
    let start = with_calls round run in
    let many : length run.reports ≡ length start.entries = numbered.many ∙ ap (λ (xs : List CycleEntry). length xs) (sym (calls-entries round run)) in
    let first = first-is s marks W run.reports frames p (before_turn s run round) (late_of run round) place formed keeps in
    let at : max (length run.reports) (min e.cycle (p.fast.before.cycle + 16)) ≡ min (max (length start.entries) e.cycle) (length start.entries + 16) = omega (arith, first, many) in
    report_told s marks W run.reports frames p (before_turn s run round) (late_of run round) place formed keeps (number_found p.fast e.cycle) r told
    ∙ (ap (λ (rn : Run). report_of rn.reports (max (length run.reports) (number_found p.fast e.cycle))) (sym (cycles-split s (early_count run round) round.entries start))
    ∙ ap (report_of (with_cycles s round.entries start).reports) at)
