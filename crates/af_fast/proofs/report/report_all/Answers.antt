use Rattle.std.proofs.Common.{ℕ, List, length, ◌≡◌, ◌<◌, inl, inr, Bool, if◌then◌else◌, Option, Some, slice_set, length-set, sym, ap, subst, ◌∙◌, arith}
use Rattle.af_fast.proofs.Common.{FastState, Observes, ServerState, SlotReport, StreamNames, carried, cases_lt, counted_look, entry_slot, fill_by_more, get_or-set_other, no_slot, report_at, slot_of, slot_report}
use Rattle.af_fast.specs.Known.{known}
use Rattle.af_fast.specs.Mixer.{most_entries}
use Rattle.af_fast.proofs.LentState.{none_now}
use Rattle.af_fast.proofs.Quiet.{quiet_from}
use Rattle.af_fast.proofs.report.report_all.Goals as goal

pub loop-slot-preserved : goal.loop-slot-preserved
loop-slot-preserved c =
    let slot : ℕ = c.loop-slot.slot in
    let i = c.loop-slot.invariant in
    let old : SlotReport = report_at c.loop-slot.reports slot in
    let first : SlotReport = report_at c.args.reports.now slot in
    let before_is : old ≡ first = i.behind slot (omega arith) in
    let report : SlotReport = slot_report c.args.asked (Some c.loop-slot.observer.past.state) c.args.last.now c.args.entry.now (known c.loop-slot.observer slot) slot old in
    let result_is =
    ap (λ (o : Observes ServerState StreamNames). slot_report c.args.asked (Some o.past.state) c.args.last.now c.args.entry.now (known o slot) slot old) i.same
    ∙ ap (λ (r : SlotReport). slot_report c.args.asked (Some c.args.observer.now.past.state) c.args.last.now c.args.entry.now (known c.args.observer.now slot) slot r) before_is in
    let is = c.report_slot.ensures.reports in
    record {
      same = c.report_slot.ensures.same ∙ i.same;
      some = i.some;
      current_is = i.current_is;
      few = i.few;
      rest = i.rest;
      whole = ap length is ∙ length-set c.loop-slot.reports slot report ∙ i.whole;
      each = (λ j lt.
          ap (λ (rs : List SlotReport). report_at rs j) is
          ∙ ap (λ (r : SlotReport). report_at (slice_set c.loop-slot.reports slot r) j) result_is
          ∙ fill_by_more (λ k. slot_report c.args.asked (Some c.args.observer.now.past.state) c.args.last.now c.args.entry.now (known c.args.observer.now k) k (report_at c.args.reports.now k)) c.loop-slot.reports slot no_slot (omega (arith, i.whole)) i.each j lt);
      behind = (λ j le. ap (λ (rs : List SlotReport). report_at rs j) is ∙ get_or-set_other c.loop-slot.reports slot j report no_slot (λ e. absurd (omega (arith, le, e))) ∙ i.behind j (omega (arith, le)));
    }

pub report_slot-requires-clause-some : goal.report_slot-requires-clause-some
report_slot-requires-clause-some c = subst (λ (o : Observes ServerState StreamNames). 0 < o.past.number) (sym c.loop-slot.invariant.same) c.loop-slot.invariant.some

pub report_slot-requires-clause-few : goal.report_slot-requires-clause-few
report_slot-requires-clause-few c =
    subst (λ (r : SlotReport). (r.fulls < most_entries) × (r.partials < most_entries) × (r.empties < most_entries)) (sym (c.loop-slot.invariant.behind c.loop-slot.slot (omega arith))) (c.requires.few c.loop-slot.slot (omega arith))

pub returns-clause-each : goal.returns-clause-each
returns-clause-each c = λ i lt.
    let k = c.loop-slot.invariant in
    let x : FastState = c.args.observer.now.past.state in
    elim (cases_lt i c.loop-slot.slot) [
      | inl less ↦ k.each i less ∙ ap (λ (s : Option FastState). slot_report c.args.asked s c.args.last.now c.args.entry.now (known c.args.observer.now i) i (report_at c.args.reports.now i)) (sym k.current_is)
      | inr le ↦ k.behind i le
          ∙ sym (ap (λ (b : Bool). if b then counted_look c.args.asked (slot_of x i).generation (entry_slot c.args.entry.now i).seen (known c.args.observer.now i) (if carried c.args.last.now i then report_at c.args.reports.now i else no_slot) else report_at c.args.reports.now i) (quiet_from x c.slots_in-used.result k.rest i (omega (arith, le))))
          ∙ ap (λ (s : Option FastState). slot_report c.args.asked s c.args.last.now c.args.entry.now (known c.args.observer.now i) i (report_at c.args.reports.now i)) (sym k.current_is)
    ]

pub returns-in_default-clause-each : goal.returns-in_default-clause-each
returns-in_default-clause-each c = λ i lt.
    ap (λ (s : Option FastState). slot_report c.args.asked s c.args.last.now c.args.entry.now (known c.args.observer.now i) i (report_at c.args.reports.now i)) (sym (none_now c.args.observer.now c.requires.order c.in_default.ensures))
