-- A turn of the normal mixer between two rounds loads the last report that was stored.
use Rattle.std.proofs.Common.{◌≡◌, ⊎_elim, ℕ, suc, ◌+◌, fold, List, [], ◌∷◌, ◌++◌, length, refl, sym, ap, ◌∙◌, append_assoc, arith}
use Rattle.af_told_law.proofs.Common.{AreTogether, CycleEntry, Links, Load, NormalState, ReaderEvent, Report, ReportTold, Run, Session, SessionState, Store, TrackKept, WriterEvent, last_of, last_report, max, min, most_round_cycles, no_report, ones, report_at, report_met, report_of, slot_number, stores, track_at, twos}
use Rattle.af_model.specs.declared.newest.ReaderEvent.TheVariants as reads
use Rattle.af_model.specs.declared.newest.WriterEvent.TheVariants as writes
use Rattle.af_model.specs.NewestValue as newest
use Rattle.af_model.specs.NewestValue.{HasValueHistory}
use Rattle.af_told_law.specs.QueueTurned.{ReportMet}
use Rattle.af_told_law.specs.Tells.{Tells, reports_stored}
use Rattle.af_told_law.proofs.TurnReport.{all_stored, last_told, loads_behind, loads_first}
use Rattle.af_told_law.specs.Deeds.{Deeds}
use Rattle.af_told_law.specs.NormalLaws.{HeardAlike}
use Rattle.af_judge.proofs.QueueSteps.{ones_met, twos_met}

-- ## The reports of a list

stored_long : (ws : List (WriterEvent Report)) → length (reports_stored ws) ≡ stores ws
stored_long [] = refl
stored_long (Store y ∷ ws) = ap suc (stored_long ws)
stored_long (writes.Learn c ∷ ws) = stored_long ws

-- the last report of a list that was stored
pub last_stored : (ws : List (WriterEvent Report)) (first : Report) → fold (λ (last : Report) (report : Report). report) first (reports_stored ws) ≡ last_of first ws
last_stored [] first = refl
last_stored (Store y ∷ ws) first = last_stored ws y
last_stored (writes.Learn c ∷ ws) first = last_stored ws first

more_learnt : (ws : List (WriterEvent Report)) (c : ℕ) (first : Report) → (stores (ws ++ writes.Learn c ∷ []) ≡ stores ws) × (last_of first (ws ++ writes.Learn c ∷ []) ≡ last_of first ws)
more_learnt [] c first = (refl, refl)
more_learnt (Store y ∷ ws) c first = let rest = more_learnt ws c y in (ap suc rest.0, rest.1)
more_learnt (writes.Learn d ∷ ws) c first = more_learnt ws c first

module _ (s : Session) (run : Run) {d : Deeds} (x : SessionState) (n : NormalState) (links : Links) (together : AreTogether links x) (told : Tells s run d x) (met_last : ReportMet run) (written read : ℕ)
    (history : HasValueHistory no_report (x.fast.writer.events ++ writes.Learn read ∷ []) (n.reader.events ++ reads.Learn written ∷ []))
    (k : ℕ) (loaded : Report) (reads_are : n.reader.events ≡ x.normal.reader.events ++ Load k loaded ∷ []) where
  abbrev ws : List (WriterEvent Report)
  ws = x.fast.writer.events

  -- the load sees as many as were stored, and the last of them
  abbrev Seen : Type 0
  Seen = (k ≡ stores ws) × (loaded ≡ last_of no_report ws)

  seen : Seen
  seen = ⊎_elim nothing behind met_last
    where
      nothing : run.report ≡ [] → Seen
      nothing none =
          let no_reads : x.normal.reader.events ≡ [] = told.shared.reader ∙ ap (λ (r : ReportTold). twos r) none in
          let no_writes : ws ≡ [] = told.shared.writer ∙ ap (λ (r : ReportTold). ones r) none in
          let all : twos history.order ≡ Load k loaded ∷ reads.Learn written ∷ [] = history.of_two ∙ ap (λ (l : List (ReaderEvent Report)). l ++ reads.Learn written ∷ []) (reads_are ∙ ap (λ (l : List (ReaderEvent Report)). l ++ Load k loaded ∷ []) no_reads) in
          let at = loads_first (newest.start_value no_report) history.order history.is_legal k loaded (reads.Learn written ∷ []) all in
          let parts : writes.Learn read ∷ [] ≡ at.front ++ at.back = sym (history.of_one ∙ ap (λ (l : List (WriterEvent Report)). l ++ writes.Learn read ∷ []) no_writes) ∙ at.parts in
          let stored = all_stored no_report [] (writes.Learn read ∷ []) at.front at.back parts (omega arith) tt in
          let none_stored : stores ws ≡ 0 = ap (λ (l : List (WriterEvent Report)). stores l) no_writes in (
            (let number = at.number in let some = stored.0 in omega (arith, number, some, none_stored)),
            at.value ∙ stored.1 ∙ sym (ap (λ (l : List (WriterEvent Report)). last_of no_report l) no_writes),
          )

      behind : (r : ReportTold) × (run.report ≡ report_met r) → Seen
      behind (r, is) =
          let c : ℕ = length (ones r) in
          let before : x.normal.reader.events ≡ twos r ++ reads.Learn c ∷ [] = told.shared.reader ∙ ap (λ (q : ReportTold). twos q) is ∙ twos_met r (writes.Learn (length (twos r))) (reads.Learn c) in
          let stored_list : ws ≡ ones r ++ writes.Learn (length (twos r)) ∷ [] = told.shared.writer ∙ ap (λ (q : ReportTold). ones q) is ∙ ones_met r (writes.Learn (length (twos r))) (reads.Learn c) in
          let all : twos history.order ≡ twos r ++ reads.Learn c ∷ Load k loaded ∷ reads.Learn written ∷ [] =
          history.of_two ∙ ap (λ (l : List (ReaderEvent Report)). l ++ reads.Learn written ∷ []) (reads_are ∙ ap (λ (l : List (ReaderEvent Report)). l ++ Load k loaded ∷ []) before)
          ∙ append_assoc (twos r ++ reads.Learn c ∷ []) (Load k loaded ∷ []) (reads.Learn written ∷ []) ∙ append_assoc (twos r) (reads.Learn c ∷ []) (Load k loaded ∷ reads.Learn written ∷ []) in
          let found = loads_behind (newest.start_value no_report) history.order history.is_legal (twos r) c k loaded (reads.Learn written ∷ []) all in
          let tail : List (WriterEvent Report) = writes.Learn (length (twos r)) ∷ writes.Learn read ∷ [] in
          let parts : ones r ++ tail ≡ found.at.front ++ found.at.back =
          sym (history.of_one ∙ ap (λ (l : List (WriterEvent Report)). l ++ writes.Learn read ∷ []) stored_list ∙ append_assoc (ones r) (writes.Learn (length (twos r)) ∷ []) (writes.Learn read ∷ [])) ∙ found.at.parts in
          let stored = all_stored no_report (ones r) tail found.at.front found.at.back parts (let l = found.learnt in omega (arith, l)) tt in
          let same = more_learnt (ones r) (length (twos r)) no_report in
          let many : stores ws ≡ stores (ones r) = ap (λ (l : List (WriterEvent Report)). stores l) stored_list ∙ same.0 in (
            (let number = found.at.number in let some = stored.0 in omega (arith, number, some, many)),
            found.at.value ∙ stored.1 ∙ sym (ap (λ (l : List (WriterEvent Report)). last_of no_report l) stored_list ∙ same.1),
          )

  entries_many : length x.fast.log.entries ≡ length run.entries
  entries_many = ap (λ (es : List CycleEntry). length es) told.fast.entries

  -- the cycle of the last report is the number of entries, and so is that of the report loaded
  pub cycle_is : loaded.cycle ≡ length run.entries
  cycle_is = ap (λ (r : Report). r.cycle) seen.1 ∙ together.fast.0.reports.number ∙ entries_many

  pub number_is : k ≡ length run.entries
  number_is = seen.0 ∙ together.fast.0.reports.many ∙ entries_many

  -- the report loaded is the one that the run tells
  pub loaded_is : loaded ≡ report_of run.reports (length run.entries)
  loaded_is =
      let long : length run.reports ≡ length run.entries = ap (λ (l : List Report). length l) (sym told.fast.reports) ∙ stored_long ws ∙ together.fast.0.reports.many ∙ entries_many in
      seen.1 ∙ sym (last_stored ws no_report) ∙ ap (λ (l : List Report). last_report l) told.fast.reports ∙ sym (last_told run.reports) ∙ ap (report_of run.reports) long

  -- the report loaded has the number that a turn with this cycle finds
  loaded_found : (cycle : ℕ) → cycle ≡ loaded.cycle → loaded ≡ report_of run.reports (min (max (length run.entries) cycle) (length run.entries + most_round_cycles))
  loaded_found cycle is =
      let same : min (max (length run.entries) cycle) (length run.entries + 16) ≡ length run.entries = (let c = cycle_is in let e : cycle ≡ length run.entries = is ∙ c in omega (arith, e)) in
      loaded_is ∙ ap (report_of run.reports) (sym same)

  -- the same is heard by the report loaded and by the one that the run tells
  pub heard_found : (tracks : List TrackKept) (cycle : ℕ) → cycle ≡ loaded.cycle → HeardAlike tracks loaded (report_of run.reports (min (max (length run.entries) cycle) (length run.entries + most_round_cycles)))
  heard_found tracks cycle is =
      let same : loaded ≡ report_of run.reports (min (max (length run.entries) cycle) (length run.entries + most_round_cycles)) = loaded_found cycle is in
      record { cycle = ap (λ (r : Report). r.cycle) same; slots = (λ i low away. ap (λ (r : Report). report_at r.slots (slot_number (track_at tracks i))) same) }
