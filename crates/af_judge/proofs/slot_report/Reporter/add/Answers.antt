use Rattle.std.proofs.Common.{List, ◌≡◌, ◌⊎◌, inl, inr, ℕ, ◌+◌, ◌<◌, ◌≤◌, length, map, sym, ap, ◌∙◌, subst, arith}
use Rattle.af_judge.proofs.Common.{FastState, SlotReport, cases_lt, fill_by_all, get_or-set_other, get_or-set_same, length-set, no_slot, range_with_len, report_at, slice_set, slots}
use Rattle.std.proofs.lemmas.List.Edits.{fill_by_more}
use Rattle.af_judge.specs.Reporting.{CountsUpTo, Telling, slot_added, state_in, told_at_slot}
use Rattle.af_judge.proofs.slot_report.Reporter.add.Goals as goal

few_more : (most : ℕ) (xs : List SlotReport) (i : ℕ) (r : SlotReport) → i < length xs → CountsUpTo most r → ((k : ℕ) → k < i → CountsUpTo most (report_at xs k)) → (k : ℕ) → k < i + 1 → CountsUpTo most (report_at (slice_set xs i r) k)
few_more most xs i r low here each k lt = by (cases_lt k i)
  where
    by : (k < i) ⊎ (i ≤ k) → CountsUpTo most (report_at (slice_set xs i r) k)
    by (inl less) = subst (CountsUpTo most) (sym (get_or-set_other xs i k r no_slot (λ e. omega (arith, e, less)))) (each k less)
    by (inr more) =
        let is : k ≡ i = omega (arith, more, lt) in
        subst (CountsUpTo most) (sym (ap (report_at (slice_set xs i r)) is ∙ get_or-set_same xs i r no_slot low)) here

pub loop-slot-preserved : goal.loop-slot-preserved
loop-slot-preserved c =
    let l = c.loop-slot in
    let i = l.invariant in
    let v : Telling = c.args.self.now in
    let f : ℕ → SlotReport = λ k. slot_added v.asked c.args.states.now c.state-state.result c.state-last.result c.args.entry.now (told_at_slot c.args.heard.now k) k (report_at v.report.slots k) in
    let low : l.slot < length l.slots = omega (arith, i.long, c.loop-slot-test.true, l.auto.slot-end) in
    let here : c.slot.result ≡ f l.slot = c.slot.ensures.slot in
    record {
      long = length-set l.slots l.slot c.slot.result ∙ i.long;
      each = λ k lt. ap (λ (r : SlotReport). report_at (slice_set l.slots l.slot r) k) here ∙ fill_by_more f l.slots l.slot no_slot low i.each k lt;
      few = few_more (v.report.cycle + 1) l.slots l.slot c.slot.result low c.slot.ensures.few i.few;
    }

pub returns : goal.returns
returns c =
    let v : Telling = c.args.self.now in
    let states = c.args.states.now in
    let entry = c.args.entry.now in
    let x : FastState = state_in v states entry.state in
    let y : FastState = state_in v states v.used in
    let f : ℕ → SlotReport = λ i. slot_added v.asked states x y entry (told_at_slot c.args.heard.now i) i (report_at v.report.slots i) in
    let used : c.self.inside.used ≡ v.used = ap (λ (t : Telling). t.used) c.self.view_is in
    let last : c.state-last.result ≡ y = c.state-last.ensures ∙ ap (λ n. state_in v states n) used in
    let each : (i : ℕ) → i < slots → report_at c.loop-slot.slots i ≡ f i =
    (λ i low. c.loop-slot.invariant.each i (omega (arith, low))
    ∙ (ap (λ (z : FastState). slot_added v.asked states z c.state-last.result entry (told_at_slot c.args.heard.now i) i (report_at v.report.slots i)) c.state-state.ensures
    ∙ ap (λ (z : FastState). slot_added v.asked states x z entry (told_at_slot c.args.heard.now i) i (report_at v.report.slots i)) last)) in
    let whole : c.loop-slot.slots ≡ map f (range_with_len 0 slots) = fill_by_all f c.loop-slot.slots slots no_slot c.loop-slot.invariant.long each in
    let asked : c.self-2.inside.asked ≡ v.asked = ap (λ (t : Telling). t.asked) c.self-2.view_is in
    let current : c.self-2.inside.current ≡ v.current = ap (λ (t : Telling). t.current) c.self-2.view_is in
    let draft : c.self-2.inside.draft ≡ v.draft = ap (λ (t : Telling). t.draft) c.self-2.view_is in
    let cycle : c.self-2.inside.report.cycle + 1 ≡ v.report.cycle + 1 = ap (λ (t : Telling). t.report.cycle + 1) c.self-2.view_is in
    λ j. record { asked = asked j; current = current j; used = entry.state; draft = draft j; report = record { cycle = cycle j; slots = whole j } }
