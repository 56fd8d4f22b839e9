-- The report that the fast mixer stores in a mix is the next one of the run, and its slots are empty while no state was used.
use Rattle.std.proofs.Common.{◌≡◌, ℕ, ◌+◌, ◌<◌, true, List, [], ◌∷◌, ◌++◌, length, Some, sym, ap, ◌∙◌, subst, arith}
use Rattle.af_told_law.proofs.Common.{AddsCycle, CycleEntry, EntrySeen, FastState, HasStateHistory, IsInOrder, IsNextReport, MixerState, NormalState, Report, Run, Session, adopted_states, carries, cycle_frames, fold-append, known, known_of, last_report, last_used, listed, next_report, no_report, report_at, slot_report, slots, state_known, state_of, stream_of, with_looks, with_mix}
use Rattle.af_told_law.specs.Tells.{IsFresh, TellsFast, TellsNormal}
use Rattle.af_told_law.proofs.MixReport.{report_told}
use Rattle.af_told_law.proofs.MixStates.{none_adopted, none_used, same_state, state_told}
use Rattle.af_told_law.proofs.ReportSeen.{last_stored}

module _ (s : Session) (run : Run) (n : NormalState) (f g : MixerState) (e : EntrySeen) (order : IsInOrder f) (normal : TellsNormal s run n) (fast : TellsFast s run f) (history : HasStateHistory n.mutator.past.first n.mutator.past.events f.observer.past.events) (adds : AddsCycle f g e.entry)
    (knows : (i : ℕ) → i < slots → carries f.observer.past.state i ≡ true → known g.observer i ≡ known_of (listed (stream_of (with_looks s e run) f.observer.past.state i))) where
  -- the mixer's reports are the slots of the last one told
  slots_told : f.reports ≡ (last_report run.reports).slots
  slots_told = sym order.reports.slots_are ∙ ap (λ (r : Report). r.slots) (sym (last_stored f.writer.events no_report)) ∙ ap (λ (rs : List Report). (last_report rs).slots) fast.reports

  used_state : state_of (adopted_states f) e.entry.state ≡ state_of run.states e.entry.state
  used_state = sym (same_state s run n f order normal fast history e.entry.state (let st = adds.state in omega (arith, st)))

  before_state : state_of (adopted_states f) (last_used f.log.entries) ≡ state_of run.states (last_used run.entries)
  before_state = sym (same_state s run n f order normal fast history (last_used f.log.entries) order.uses.low) ∙ ap (λ (es : List CycleEntry). state_of run.states (last_used es)) fast.entries

  next_told : IsNextReport (cycle_frames s) run.states run.entries e.entry (known g.observer) (last_report run.reports).slots adds.report.0
  next_told = record {
    number = adds.report.2.number ∙ ap (λ (es : List CycleEntry). length es + 1) fast.entries;
    whole = adds.report.2.whole;
    each = (λ i low. adds.report.2.each i low ∙ (λ j. slot_report (fast.frames j) (used_state j) (before_state j) e.entry (known g.observer i) i (report_at (slots_told j) i)));
  }

  state_is : (y : FastState) → state_of run.states e.entry.state ≡ Some y → f.observer.past.state ≡ y
  state_is y is = sym (state_told s run n f order normal fast history e.entry.state adds.state) ∙ state_known s run e.entry.state y is

  pub report_is : adds.report.0 ≡ next_report s (with_looks s e run) e.entry
  report_is = report_told s (with_looks s e run) e.entry (known g.observer) adds.report.0 next_told
      (λ i low none. ap (λ (z : FastState). carries z i) (state_told s run n f order normal fast history e.entry.state adds.state) ∙ none_adopted s run n f order normal fast history (ap (state_of run.states) (sym adds.state) ∙ none) i low)
      (λ i low none. fast.fresh (none_used s run n f order normal fast history none) i low)
      (λ i low y is on. subst (λ (z : FastState). carries z i ≡ true → known g.observer i ≡ known_of (listed (stream_of (with_looks s e run) z i))) (state_is y is) (knows i low) on)

  -- ## While no state was used

  used_more : last_used (run.entries ++ e.entry ∷ []) ≡ e.entry.state
  used_more = fold-append (λ (number : ℕ) (entry : CycleEntry). entry.state) 0 run.entries (e.entry ∷ [])

  last_more : last_report (run.reports ++ next_report s (with_looks s e run) e.entry ∷ []) ≡ next_report s (with_looks s e run) e.entry
  last_more = fold-append (λ (last report : Report). report) no_report run.reports (next_report s (with_looks s e run) e.entry ∷ [])

  pub fresh_mixed : IsFresh (with_mix s e run)
  unfolding with_mix
  fresh_mixed none i low =
      let zero_now : e.entry.state ≡ 0 = sym used_more ∙ none in
      let zero_before : last_used run.entries ≡ 0 = (let l = adds.legal.follows.0 in let es = ap last_used fast.entries in omega (arith, l, es, zero_now)) in
      ap (λ (r : Report). report_at r.slots i) (last_more ∙ sym report_is)
      ∙ next_told.each i low
      ∙ ap (λ (k : ℕ). slot_report (cycle_frames s) (state_of run.states k) (state_of run.states (last_used run.entries)) e.entry (known g.observer i) i (report_at (last_report run.reports).slots i)) zero_now
      ∙ fast.fresh zero_before i low
