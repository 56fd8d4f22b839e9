-- What is kept of the report follows each step of a round, and each meeting is judged exactly.
use Rattle.std.specs.Prelude.{if◌then◌else◌, ◌↔◌}
use Rattle.std.proofs.Common.{◌≡◌, ℕ, zero, suc, ◌+◌, ◌-◌, ◌<◌, ◌≤◌, Bool, true, false, List, [], ◌∷◌, ◌++◌, fold, length, map, take, drop, get_or, Option, Some, None, refl, sym, ap, ◌∙◌, subst, arith, append_assoc, append-nil, length-append}
use Rattle.af_judge.proofs.Common.{EntrySeen, HasOrder, HasReportHistory, MatchOption, ReaderEvent, Report, ReportTold, RoundSeen, Run, Session, Turn, TurnFound, WriterEvent, point_after, drop-append-le, drop_of_length-le, each_track, ends, fold-append, get_or-drop, get_or_append_left, get_or_default, last_report, length-map, length-take-le, map-append, met, ne_eqb, new_run, no_report, one, ones, report_met, report_of, take-append-drop, two, twos, with_calls, with_ends, with_load, with_mix, with_poll, with_turn}
use Rattle.af_model.specs.declared.newest.ReaderEvent.TheVariants as reads
use Rattle.af_model.specs.declared.newest.ReaderEvent.TheVariants.{Load}
use Rattle.af_model.specs.declared.newest.WriterEvent.TheVariants as writes
use Rattle.af_model.specs.declared.newest.WriterEvent.TheVariants.{Store}
use Rattle.af_model.specs.NewestValue as newest
use Rattle.af_judge.specs.ReportKept.{IsLoadOf, ReportKept}
use Rattle.af_judge.specs.SharedTold.{ReportFollows, ReportOf, loads_of}
use Rattle.af_judge.proofs.OrderCuts.{cut_begins, cut_meets, meeting_exact}
use Rattle.af_judge.proofs.QueueMeets.{cell_meeting}
use Rattle.af_judge.proofs.QueueSteps.{ones_met, ones_more, ones_stay, twos_met, twos_more, twos_stay}
use Rattle.af_judge.proofs.ReportRounds.{cell_after, cell_left, load_exact, load_within, none_exact, stores, value_at}

-- ## Reports by their numbers

-- a report that was there stays
report_same : (reports more : List Report) (n : ℕ) → n ≤ length reports → report_of (reports ++ more) n ≡ report_of reports n
report_same reports more zero low = refl
report_same reports more (suc n) low =
    let at : n < length reports = omega (arith, low) in
    let back : suc n - 1 ≡ n = omega arith in
    let inside = λ (rs : List Report) (h : n < length rs). ap (λ b. if b then no_report else get_or rs (suc n - 1) (last_report rs)) (ne_eqb (suc n) 0 (λ e. omega (arith, e)))
    ∙ (ap (λ i. get_or rs i (last_report rs)) back ∙ get_or_default rs n (last_report rs) no_report h) in
    inside (reports ++ more) (let l = length-append reports more in omega (arith, l, at)) ∙ (get_or_append_left reports more no_report n at ∙ sym (inside reports at))

last_is : (xs : List Report) (x d : Report) → get_or (x ∷ xs) (length xs) d ≡ fold (λ last report. report) x xs
last_is [] x d = refl
last_is (y ∷ ys) x d = last_is ys y d

-- the last one
report_last : (reports : List Report) → report_of reports (length reports) ≡ last_report reports
report_last [] = refl
report_last (x ∷ xs) =
    let back : suc (length xs) - 1 ≡ length xs = omega arith in
    ap (λ b. if b then no_report else get_or (x ∷ xs) (suc (length xs) - 1) (last_report (x ∷ xs))) (ne_eqb (suc (length xs)) 0 (λ e. omega (arith, e)))
    ∙ (ap (λ i. get_or (x ∷ xs) i (last_report (x ∷ xs))) back ∙ last_is xs x (last_report (x ∷ xs)))

-- the last one, from one that is there on
report_from : (reports : List Report) (n : ℕ) → n ≤ length reports → fold (λ last report. report) (report_of reports n) (drop n reports) ≡ report_of reports (length reports)
report_from reports n low =
    let long : length (take n reports) ≡ n = length-take-le n reports low in
    let whole : take n reports ++ drop n reports ≡ reports = take-append-drop n reports in
    let first : report_of reports n ≡ last_report (take n reports) =
    ap (λ rs. report_of rs n) (sym whole) ∙ (report_same (take n reports) (drop n reports) n (omega (arith, long)) ∙ (ap (report_of (take n reports)) (sym long) ∙ report_last (take n reports))) in
    ap (λ (r : Report). fold (λ (last report : Report). report) r (drop n reports)) first
    ∙ (sym (fold-append (λ (last report : Report). report) no_report (take n reports) (drop n reports)) ∙ (ap last_report whole ∙ sym (report_last reports)))

drop_long : (reports : List Report) (n : ℕ) → n ≤ length reports → n + length (drop n reports) ≡ length reports
drop_long reports n low =
    let long = length-take-le n reports low in
    let whole = ap (λ (l : List Report). length l) (take-append-drop n reports) in
    let both = length-append (take n reports) (drop n reports) in
    omega (arith, long, whole, both)

-- ## Before the first event

pub report_begins : ReportFollows [] [] (record { met = 0; loaded = None })
report_begins = record {
  point = newest.start_value no_report;
  firsts = [];
  seconds = [];
  told_one = refl;
  told_two = refl;
  cut = cut_begins newest.legal_value newest.next_value (newest.start_value no_report);
  many_one = refl;
  many_two = refl;
  number = refl;
  value = refl;
  within = omega arith;
}

-- ## Stores and loads

module _ (reports : List Report) (told : ReportTold) (r : ReportKept) (h : ReportFollows reports told r) where
  store_one : (x : Report) → ones (told ++ one (Store x) ∷ []) ≡ h.firsts ++ map (λ y. Store y) (drop r.met (reports ++ x ∷ []))
  store_one x =
      ones_more told (Store x ∷ [])
      ∙ (ap (λ l. l ++ Store x ∷ []) h.told_one
      ∙ (append_assoc h.firsts (stores (drop r.met reports)) (Store x ∷ [])
      ∙ ap (λ l. h.firsts ++ l) (sym (map-append (λ (y : Report). writes.Store y) (drop r.met reports) (x ∷ [])) ∙ ap (λ l. stores l) (sym (drop-append-le r.met reports (x ∷ []) h.within)))))

  pub report_stored : (x : Report) → r.loaded ≡ None → ReportFollows (reports ++ x ∷ []) (told ++ one (Store x) ∷ []) r
  report_stored x none = record {
    point = h.point;
    firsts = h.firsts;
    seconds = h.seconds;
    told_one = store_one x;
    told_two = twos_stay told (Store x ∷ []) ∙ (h.told_two ∙ ap (λ l. h.seconds ++ l) (ap (loads_of reports) none ∙ sym (ap (loads_of (reports ++ x ∷ [])) none)));
    cut = h.cut;
    many_one = h.many_one;
    many_two = h.many_two;
    number = h.number;
    value = h.value ∙ sym (report_same reports (x ∷ []) r.met h.within);
    within = (let l = length-append reports (x ∷ []) in let w = h.within in omega (arith, l, w));
  }

  pub report_loaded : (number : ℕ) → r.loaded ≡ None → ReportFollows reports (told ++ map two (Load number (report_of reports number) ∷ [])) (record r { loaded = Some number })
  report_loaded number none = record {
    point = h.point;
    firsts = h.firsts;
    seconds = h.seconds;
    told_one = ones_stay told (Load number (report_of reports number) ∷ []) ∙ h.told_one;
    told_two = twos_more told (Load number (report_of reports number) ∷ [])
        ∙ (ap (λ l. l ++ Load number (report_of reports number) ∷ []) (h.told_two ∙ (ap (λ l. h.seconds ++ l) (ap (loads_of reports) none) ∙ append-nil h.seconds)));
    cut = h.cut;
    many_one = h.many_one;
    many_two = h.many_two;
    number = h.number;
    value = h.value;
    within = h.within;
  }

  -- ## Meetings

  abbrev values : List Report
  values = drop r.met reports

  abbrev loads : List (ReaderEvent Report)
  loads = loads_of reports r.loaded

  abbrev Order : Type 0
  Order = HasOrder newest.legal_value newest.next_value h.point (stores values) loads

  abbrev learnt : ℕ
  learnt = length (twos told)

  abbrev known : ℕ
  known = length (ones told)

  many : r.met + length values ≡ length reports
  many = drop_long reports r.met h.within

  value_is : (number : ℕ) → r.met ≤ number → number ≤ length reports → value_at h.point values number ≡ report_of reports number
  value_is number low high = ap (λ n. get_or (h.point.value ∷ values) (number - n) h.point.value) h.number ∙ by_place (number - r.met) refl
    where
      by_place : (above : ℕ) → number - r.met ≡ above → get_or (h.point.value ∷ values) above h.point.value ≡ report_of reports number
      by_place zero is = h.value ∙ ap (report_of reports) (omega (arith, is, low))
      by_place (suc above) is =
          let at : r.met + above ≡ number - 1 = omega (arith, is, low) in
          let some : number ≡ 0 → ⊥ = (λ e. omega (arith, is, e)) in
          let inside : number - 1 < length reports = omega (arith, is, high, low) in
          get_or-drop r.met reports above h.point.value
          ∙ (ap (λ i. get_or reports i h.point.value) at ∙ (get_or_default reports (number - 1) h.point.value (last_report reports) inside ∙ sym (ap (λ b. if b then no_report else get_or reports (number - 1) (last_report reports)) (ne_eqb number 0 some))))

  by_load : (o : Option ℕ) → HasOrder newest.legal_value newest.next_value h.point (stores values) (loads_of reports o) ↔ MatchOption o (Unit {0}) (λ number. (r.met ≤ number) × (number ≤ length reports))
  by_load None = ((λ g. tt), (λ u. none_exact h.point values))
  by_load (Some number) = (
    λ g. (let w = load_within h.point values number (report_of reports number) g in let n = h.number in let m = many in let a = w.0 in let b = w.1 in (omega (arith, a, n), omega (arith, b, n, m))),
    λ b. (let n = h.number in let m = many in let low = b.0 in let high = b.1 in
        subst (λ v. HasOrder newest.legal_value newest.next_value h.point (stores values) (Load number v ∷ [])) (value_is number b.0 b.1) ((load_exact h.point values number).1 (omega (arith, low, n), omega (arith, high, n, m)))),
  )

  left_is : (g : Order) → point_after newest.legal_value newest.next_value h.point g.order ≡ cell_left h.point values loads
  left_is g = cell_after g.order h.point values g.of_one ∙ ap (cell_left h.point values) g.of_two

  first_known : h.point.writes + length (stores values) ≡ known
  first_known = let e = h.many_one in let l = length-append h.firsts (stores values) in let t = ap (λ (z : List (WriterEvent Report)). length z) h.told_one in omega (arith, e, l, t)

  second_known : h.point.reads + length loads ≡ learnt
  second_known = let e = h.many_two in let l = length-append h.seconds loads in let t = ap (λ (z : List (ReaderEvent Report)). length z) h.told_two in omega (arith, e, l, t)

  stored_long : length (stores values) ≡ length values
  stored_long = length-map values (λ (x : Report). writes.Store x)

  may_meet : (g : Order) → newest.legal_value (point_after newest.legal_value newest.next_value h.point g.order) (one (writes.Learn learnt)) × newest.legal_value (newest.next_value (point_after newest.legal_value newest.next_value h.point g.order) (one (writes.Learn learnt))) (two (reads.Learn known))
  may_meet g = subst (λ p. newest.legal_value p (one (writes.Learn learnt)) × newest.legal_value (newest.next_value p (one (writes.Learn learnt))) (two (reads.Learn known))) (sym (left_is g)) (
    (let s = second_known in omega (arith, s)),
    (let s = first_known in let l = stored_long in omega (arith, s, l)),
  )

  met_one : ones (report_met told) ≡ h.firsts ++ (stores values ++ writes.Learn learnt ∷ [])
  met_one = ones_met told (writes.Learn learnt) (reads.Learn known) ∙ (ap (λ l. l ++ writes.Learn learnt ∷ []) h.told_one ∙ append_assoc h.firsts (stores values) (writes.Learn learnt ∷ []))

  met_two : twos (report_met told) ≡ h.seconds ++ (loads ++ reads.Learn known ∷ [])
  met_two = twos_met told (writes.Learn learnt) (reads.Learn known) ∙ (ap (λ l. l ++ reads.Learn known ∷ []) h.told_two ∙ append_assoc h.seconds loads (reads.Learn known ∷ []))

  order_told : Order ↔ HasReportHistory (report_met told)
  order_told =
      subst (λ (l : List (WriterEvent Report) × List (ReaderEvent Report)). Order ↔ HasOrder newest.legal_value newest.next_value (newest.start_value no_report) l.0 l.1) (λ j. (sym met_one j, sym met_two j))
      (meeting_exact newest.legal_value newest.next_value (λ p. p.writes) (λ p. p.reads) (writes.Learn learnt) (reads.Learn known) known learnt (cell_meeting learnt known)
      (newest.start_value no_report) h.point h.firsts (stores values) h.seconds loads h.cut first_known second_known may_meet)

  -- the load is right exactly if the report has its history
  pub report_exact : IsLoadOf (length reports) r ↔ HasReportHistory (report_met told)
  report_exact = ((λ b. order_told.0 ((by_load r.loaded).1 b)), (λ g. (by_load r.loaded).0 (order_told.1 g)))

  pub report_meets : IsLoadOf (length reports) r → ReportFollows reports (report_met told) (record { met = length reports; loaded = None })
  report_meets b =
      let g = (by_load r.loaded).1 b in
      let nothing : drop (length reports) reports ≡ [] = drop_of_length-le reports (omega arith) in
      let left = cell_left h.point values loads in
      record {
        point = newest.next_value (newest.next_value left (one (writes.Learn learnt))) (two (reads.Learn known));
        firsts = h.firsts ++ (stores values ++ writes.Learn learnt ∷ []);
        seconds = h.seconds ++ (loads ++ reads.Learn known ∷ []);
        told_one = met_one ∙ (sym (append-nil (h.firsts ++ (stores values ++ writes.Learn learnt ∷ []))) ∙ ap (λ l. (h.firsts ++ (stores values ++ writes.Learn learnt ∷ [])) ++ stores l) (sym nothing));
        told_two = met_two ∙ sym (append-nil (h.seconds ++ (loads ++ reads.Learn known ∷ [])));
        cut = cut_meets newest.legal_value newest.next_value (λ p. p.writes) (λ p. p.reads) (writes.Learn learnt) (reads.Learn known) known learnt (cell_meeting learnt known)
            (newest.start_value no_report) h.point h.firsts (stores values) h.seconds loads h.cut first_known second_known may_meet left left_is g;
        many_one =
            (let s = first_known in let m = stored_long in let l = ap (λ (z : List (WriterEvent Report)). length z) (sym met_one ∙ ones_met told (writes.Learn learnt) (reads.Learn known)) in
            let w = length-append (ones told) (writes.Learn learnt ∷ []) in omega (arith, s, m, l, w));
        many_two =
            (let s = second_known in let l = ap (λ (z : List (ReaderEvent Report)). length z) (sym met_two ∙ twos_met told (writes.Learn learnt) (reads.Learn known)) in
            let w = length-append (twos told) (reads.Learn known ∷ []) in omega (arith, s, l, w));
        number = (let n = h.number in let m = many in omega (arith, n, m));
        value = ap (λ (x : Report). fold (λ (last report : Report). report) x values) h.value ∙ report_from reports r.met h.within;
        within = omega arith;
      }

-- ## The run

pub report_first : (s : Session) → ReportOf s (new_run s) (record { met = 0; loaded = None })
report_first s = record { stored = refl; follows = report_begins }

pub report_called : (s : Session) (round : RoundSeen) (run : Run) (r : ReportKept) → ReportOf s run r → ReportOf s (with_calls round run) r
unfolding with_calls
report_called s round run r h = record { stored = h.stored; follows = h.follows }

pub report_polled : (s : Session) (k : ℕ) (run : Run) (r : ReportKept) → ReportOf s run r → ReportOf s (with_poll s k run) r
unfolding with_poll
report_polled s k run r h = record { stored = h.stored; follows = h.follows }

-- each entry stores a report
pub report_mixed : (s : Session) (e : EntrySeen) (run : Run) (r : ReportKept) → r.loaded ≡ None → ReportOf s run r → ReportOf s (with_mix s e run) r
unfolding with_mix
report_mixed s e run r none h = record {
  stored = length-append run.reports _ ∙ (ap (λ n. n + 1) h.stored ∙ sym (length-append run.entries (e.entry ∷ [])));
  follows = report_stored run.reports run.report r h.follows _ none;
}

pub report_turned : (s : Session) (f : TurnFound) (e : Turn) (run : Run) (r : ReportKept) → ReportOf s run r → ReportOf s (with_turn s f e run) r
unfolding with_turn
report_turned s f e run r h = record { stored = h.stored; follows = h.follows }

-- a turn that goes on loads one, and one that ended none
abbrev pub loaded_by : Turn → ReportKept → ReportKept
loaded_by e r = if e.ended then r else record r { loaded = Some e.cycle }

pub report_of_turn : (s : Session) (e : Turn) (run : Run) (r : ReportKept) → r.loaded ≡ None → ReportOf s run r → ReportOf s (with_load e run) (loaded_by e r)
unfolding with_load
report_of_turn s e run r none h = record { stored = h.stored; follows = by_case e.ended }
  where
    by_case : (ended : Bool) → ReportFollows run.reports (run.report ++ map two (if ended then [] else Load e.cycle (report_of run.reports e.cycle) ∷ [])) (if ended then r else record r { loaded = Some e.cycle })
    by_case true = subst (λ l. ReportFollows run.reports l r) (sym (append-nil run.report)) h.follows
    by_case false = report_loaded run.reports run.report r h.follows e.cycle none

pub report_judged : (s : Session) (run : Run) (r : ReportKept) → ReportOf s run r → IsLoadOf (length run.reports) r ↔ HasReportHistory (met s run).report
unfolding met
report_judged s run r h = report_exact run.reports run.report r h.follows

pub report_met_so : (s : Session) (run : Run) (r : ReportKept) → ReportOf s run r → IsLoadOf (length run.reports) r → ReportOf s (met s run) (record { met = length run.reports; loaded = None })
unfolding met
report_met_so s run r h b = record { stored = h.stored; follows = report_meets run.reports run.report r h.follows b }

pub report_ended : (s : Session) (run : Run) (r : ReportKept) → ReportOf s run r → ReportOf s (with_ends run) r
unfolding with_ends
report_ended s run r h = by_case run.normal.ended
  where
    by_case : (ended : Bool) → ReportOf s (if ended then each_track (λ track t. record t { client = ends t.client }) run else run) r
    by_case true = record { stored = h.stored; follows = h.follows }
    by_case false = h
