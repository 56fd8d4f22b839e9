-- The load of a round shows the report of its number among all that are stored by the end of the round.
use Rattle.std.proofs.Common.{◌≡◌, ◌⊎◌, inl, inr, ⊎_elim, ℕ, zero, suc, ◌+◌, ◌-◌, ◌≤◌, ◌<◌, ◌==◌, Bool, false, if◌then◌else◌, List, [], ◌∷◌, ◌++◌, length, length-append, append-nil, append_assoc, refl, sym, ap, subst, ◌∙◌, arith}
use Rattle.af_play_law.proofs.Common.{EndsMet, MixerState, NormalState, ReaderEvent, Report, ReportMet, ReportTold, Run, SessionState, Store, WriterEvent, last_of, last_report, max, no_report, ones, report_met, report_of, reports_stored, slice_index_or, stores, twos}
use Rattle.af_model.specs.declared.newest.ReaderEvent.TheVariants as reads
use Rattle.af_model.specs.declared.newest.WriterEvent.TheVariants as writes
use Rattle.af_model.specs.NewestValue as newest
use Rattle.af_model.specs.NewestValue.{HasValueHistory}
use Rattle.af_judge.proofs.QueueSteps.{ones_met, twos_met}
use Rattle.af_told_law.proofs.TurnReport.{LoadsAt, loads_behind, loads_first}
use Rattle.af_play_law.specs.Loads.{CountUp, LoadsOneOf, LoadsShowTheirNumber, MetLast}
use Rattle.af_play_law.proofs.PushesRise.{either_cuts}

abbrev Stored : Type 0
Stored = List (WriterEvent Report)

-- ## The reports of a list

stores_append : (xs ys : Stored) → stores (xs ++ ys) ≡ stores xs + stores ys
stores_append [] ys = omega arith
stores_append (Store x ∷ xs) ys = let rest = stores_append xs ys in omega (arith, rest)
stores_append (writes.Learn c ∷ xs) ys = stores_append xs ys

reports_many : (ws : Stored) → length (reports_stored ws) ≡ stores ws
reports_many [] = refl
reports_many (Store x ∷ ws) = ap suc (reports_many ws)
reports_many (writes.Learn c ∷ ws) = reports_many ws

-- the report of a number, x before the first
abbrev numbered : Report → ℕ → List Report → Report → Report
numbered x zero reports d = x
numbered x (suc k) reports d = slice_index_or reports k d

-- the last report stored in a front is that of its number
last_numbered : (x d : Report) (front back : Stored) → last_of x front ≡ numbered x (stores front) (reports_stored (front ++ back)) d
last_numbered x d [] back = refl
last_numbered x d (Store y ∷ front) back = last_numbered y d front back ∙ behind (stores front)
  where
    behind : (k : ℕ) → numbered y k (reports_stored (front ++ back)) d ≡ slice_index_or (y ∷ reports_stored (front ++ back)) k d
    behind zero = refl
    behind (suc k) = refl
last_numbered x d (writes.Learn c ∷ front) back = last_numbered x d front back

numbered_is : (reports : List Report) (k : ℕ) → numbered no_report k reports (last_report reports) ≡ report_of reports k
numbered_is reports zero = refl
numbered_is reports (suc k) =
    let some : (suc k == 0) ≡ false = grind arith in
    let place : suc k - 1 ≡ k = omega arith in
    sym (ap (λ (b : Bool). if b then no_report else slice_index_or reports (suc k - 1) (last_report reports)) some ∙ ap (λ (i : ℕ). slice_index_or reports i (last_report reports)) place)

-- ## A load

at_front : (ws : Stored) (k : ℕ) (x : Report) (known : ℕ) → (at : LoadsAt (newest.start_value no_report) ws k x) → known ≤ stores at.front → LoadsOneOf known k (reports_stored ws) x
at_front ws k x known at low =
    let number : k ≡ stores at.front = (let is = at.number in omega (arith, is)) in
    let many = reports_many ws in
    let list = ap (λ (l : Stored). stores l) at.parts in
    let sum = stores_append at.front at.back in
    record {
      known_all = omega (arith, number, low);
      stored = omega (arith, number, many, list, sum);
      is = at.value ∙ last_numbered no_report (last_report (reports_stored ws)) at.front at.back
          ∙ (λ j. numbered no_report (sym number j) (reports_stored (sym at.parts j)) (last_report (reports_stored ws))) ∙ numbered_is (reports_stored ws) k;
    }

-- a longer front stores as much or more
fewer : (xs us ys vs : Stored) → xs ++ us ≡ ys ++ vs → length xs ≤ length ys → stores xs ≤ stores ys
fewer xs us ys vs e few = elim (either_cuts xs us ys vs e) as (λ _. stores xs ≤ stores ys) [
  | inl c ↦ (let list = ap (λ (l : Stored). stores l) c.longer in let sum = stores_append xs c.between in omega (arith, list, sum))
  | inr c ↦
      let list = ap (λ (l : Stored). stores l) c.longer in
      let sum = stores_append ys c.between in
      let long = ap (λ (l : Stored). length l) c.longer in
      let longer = length-append ys c.between in
      let none = none_stored c.between (omega (arith, long, longer, few)) in
      omega (arith, list, sum, none)
]
  where
    none_stored : (l : Stored) → length l ≡ 0 → stores l ≡ 0
    none_stored [] e = refl
    none_stored (w ∷ l) e = absurd (omega (arith, e))

pub loads_show : LoadsShowTheirNumber
loads_show ws more rs behind k x met h = ⊎_elim first again met
  where
    first : (ws ≡ []) × (rs ≡ []) → LoadsOneOf (stores ws) k (reports_stored (ws ++ more)) x
    first (none, unread) =
        let at : LoadsAt (newest.start_value no_report) (ones h.order) k x = loads_first (newest.start_value no_report) h.order h.is_legal k x behind (h.of_two ∙ ap (λ (l : List (ReaderEvent Report)). l ++ reads.Load k x ∷ behind) unread) in
        let nothing : stores ws ≡ 0 = ap (λ (l : Stored). stores l) none in
        subst (λ (l : Stored). LoadsOneOf (stores ws) k (reports_stored l) x) h.of_one (at_front (ones h.order) k x (stores ws) at (omega (arith, nothing)))

    again : MetLast ws rs → LoadsOneOf (stores ws) k (reports_stored (ws ++ more)) x
    again m =
        let list : twos h.order ≡ m.read ++ reads.Learn (length m.wrote) ∷ reads.Load k x ∷ behind = h.of_two ∙ ap (λ (l : List (ReaderEvent Report)). l ++ reads.Load k x ∷ behind) m.reader ∙ append_assoc m.read (reads.Learn (length m.wrote) ∷ []) (reads.Load k x ∷ behind) in
        let found = loads_behind (newest.start_value no_report) h.order h.is_legal m.read (length m.wrote) k x behind list in
        let parts : m.wrote ++ (writes.Learn (length m.read) ∷ more) ≡ found.at.front ++ found.at.back = sym (append_assoc m.wrote (writes.Learn (length m.read) ∷ []) more) ∙ ap (λ (l : Stored). l ++ more) (sym m.writer) ∙ sym h.of_one ∙ found.at.parts in
        let low = fewer m.wrote (writes.Learn (length m.read) ∷ more) found.at.front found.at.back parts (let l = found.learnt in omega (arith, l)) in
        let before = ap (λ (l : Stored). stores l) m.writer in
        let sum = stores_append m.wrote (writes.Learn (length m.read) ∷ []) in
        subst (λ (l : Stored). LoadsOneOf (stores ws) k (reports_stored l) x) h.of_one (at_front (ones h.order) k x (stores ws) found.at (omega (arith, low, before, sum)))

-- ## A round

reports_append : (xs ys : Stored) → reports_stored (xs ++ ys) ≡ reports_stored xs ++ reports_stored ys
reports_append [] ys = refl
reports_append (Store x ∷ xs) ys = ap (λ (l : List Report). x ∷ l) (reports_append xs ys)
reports_append (writes.Learn c ∷ xs) ys = reports_append xs ys

-- From x to u the normal mixer loaded the report once, while the fast mixer stored some, and then all met
module _ (x u z : SessionState) (ends : EndsMet u.normal z.normal u.fast z.fast) (met : ((x.fast.writer.events ≡ []) × (x.normal.reader.events ≡ [])) ⊎ MetLast x.fast.writer.events x.normal.reader.events)
    (k : ℕ) (report : Report) (reads_are : u.normal.reader.events ≡ x.normal.reader.events ++ reads.Load k report ∷ []) (more : Stored) (writes_are : u.fast.writer.events ≡ x.fast.writer.events ++ more) where
  abbrev knows : WriterEvent Report
  knows = writes.Learn (length u.normal.reader.events)

  abbrev learns : ReaderEvent Report
  learns = reads.Learn (length u.fast.writer.events)

  history : HasValueHistory no_report (x.fast.writer.events ++ (more ++ knows ∷ [])) (x.normal.reader.events ++ reads.Load k report ∷ (learns ∷ []))
  history = subst (λ (w : Stored × List (ReaderEvent Report)). HasValueHistory no_report w.0 w.1)
      (λ j. (
        (ap (λ (f : MixerState). f.writer.events) ends.fast ∙ ap (λ (l : Stored). l ++ knows ∷ []) writes_are ∙ append_assoc x.fast.writer.events more (knows ∷ [])) j,
        (ap (λ (n : NormalState). n.reader.events) ends.normal ∙ ap (λ (l : List (ReaderEvent Report)). l ++ learns ∷ []) reads_are ∙ append_assoc x.normal.reader.events (reads.Load k report ∷ []) (learns ∷ [])) j,
      ))
      ends.histories.report

  same_reports : reports_stored (x.fast.writer.events ++ (more ++ knows ∷ [])) ≡ reports_stored u.fast.writer.events
  same_reports = ap (λ (l : Stored). reports_stored l) (sym (append_assoc x.fast.writer.events more (knows ∷ []))) ∙ reports_append (x.fast.writer.events ++ more) (knows ∷ []) ∙ append-nil (reports_stored (x.fast.writer.events ++ more))
      ∙ ap (λ (l : Stored). reports_stored l) (sym writes_are)

  -- the load of a round shows the report of its number
  pub round_loads : LoadsOneOf (stores x.fast.writer.events) k (reports_stored u.fast.writer.events) report
  round_loads = subst (λ (l : List Report). LoadsOneOf (stores x.fast.writer.events) k l report) same_reports (loads_show x.fast.writer.events (more ++ knows ∷ []) x.normal.reader.events (learns ∷ []) k report met history)

-- ## Before a round

-- what a run tells of the report ends with a meeting, or nothing happened yet
pub met_before : (run : Run) → ReportMet run → ((ones run.report ≡ []) × (twos run.report ≡ [])) ⊎ MetLast (ones run.report) (twos run.report)
met_before run met = ⊎_elim (λ (none : run.report ≡ []). inl (ap (λ (r : ReportTold). ones r) none, ap (λ (r : ReportTold). twos r) none)) (λ (m : (told : ReportTold) × (run.report ≡ report_met told)). inr (last m.0 m.1)) met
  where
    last : (told : ReportTold) → run.report ≡ report_met told → MetLast (ones run.report) (twos run.report)
    last told is = record {
      wrote = ones told;
      read = twos told;
      writer = ap (λ (r : ReportTold). ones r) is ∙ ones_met told (writes.Learn (length (twos told))) (reads.Learn (length (ones told)));
      reader = ap (λ (r : ReportTold). twos r) is ∙ twos_met told (writes.Learn (length (twos told))) (reads.Learn (length (ones told)));
    }

-- ## Cycles

-- the reports are numbered with one more
pub count_on : (n : ℕ) (reports : List Report) (r : Report) → CountUp n reports → r.cycle ≡ n + length reports + 1 → CountUp n (reports ++ r ∷ [])
count_on n [] r count is = (omega (arith, is), tt)
count_on n (q ∷ reports) r count is = (count.0, count_on (n + 1) reports r count.1 (omega (arith, is)))

counted_at : (n : ℕ) (reports : List Report) (k : ℕ) (d : Report) → CountUp n reports → k < length reports → (slice_index_or reports k d).cycle ≡ n + k + 1
counted_at n [] k d count low = absurd (omega (arith, low))
counted_at n (r ∷ reports) zero d count low = (let c = count.0 in omega (arith, c))
counted_at n (r ∷ reports) (suc k) d count low = (let c = counted_at (n + 1) reports k d count.1 (omega (arith, low)) in omega (arith, c))

-- the cycle of a report that was loaded is its number
pub cycle_loaded : (known k : ℕ) (reports : List Report) (x : Report) → CountUp 0 reports → LoadsOneOf known k reports x → x.cycle ≡ k
cycle_loaded known zero reports x count l = ap (λ (r : Report). r.cycle) l.is
cycle_loaded known (suc k) reports x count l =
    let at = counted_at 0 reports k (last_report reports) count (let s = l.stored in omega (arith, s)) in
    let is = ap (λ (r : Report). r.cycle) (l.is ∙ sym (numbered_is reports (suc k))) in
    omega (arith, at, is)

-- the report loaded is the one found by its cycle
pub loaded_found : (known k : ℕ) (reports : List Report) (x : Report) (cycle : ℕ) → CountUp 0 reports → LoadsOneOf known k reports x → cycle ≡ x.cycle → (k ≡ cycle) × (x ≡ report_of reports (max known cycle))
loaded_found known k reports x cycle count l is =
    let number = cycle_loaded known k reports x count l in
    let low = l.known_all in
    let same : k ≡ max known cycle = omega (arith, number, low, is) in
    (sym (is ∙ number), l.is ∙ ap (report_of reports) same)
