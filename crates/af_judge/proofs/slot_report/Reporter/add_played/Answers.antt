use Rattle.std.proofs.Common.{List, ◌≡◌, ℕ, ◌+◌, ◌<◌, map, get_or, sym, ap, ◌∙◌, subst, rules, arith}
use Rattle.af_judge.proofs.Common.{FastState, Heard, SlotReport, fill_by_all, get_or-map-range_with_len, no_slot, nothing_heard, range_with_len, report_at, slots}
use Rattle.af_judge.specs.FastKept.{heard_slots}
use Rattle.af_judge.specs.Reporting.{CountsUpTo, Telling, heard_at, slot_added, state_in, told_at_slot, told_by}
use Rattle.af_judge.proofs.SlotsAdded.{AreAdded, added-more, added-none, added-same, counts-more, not-carried}
use Rattle.af_judge.proofs.slot_report.Reporter.add_played.Goals as goal
use Rattle.af_judge.proofs.slot_report.Reporter.add_played.Goals.{then-carries_item, else-carries_item}

pub loop-slot-init : goal.loop-slot-init
loop-slot-init c =
    let v : Telling = c.args.self.now in
    added-none (λ i. slot_added v.asked c.args.states.now c.state-state.result c.state-last.result c.args.entry.now (told_by (heard_at (map (λ t. t.stream) c.args.tracks.now) c.args.played.now i)) i (report_at v.report.slots i))
    v.report.slots c.self.inside.report.slots (v.report.cycle + 1) (search rules) (ap (λ (t : Telling). t.report.slots) c.self.view_is)

pub loop-slot-preserved : goal.loop-slot-preserved
loop-slot-preserved c =
    let v : Telling = c.args.self.now in
    let l = c.loop-slot in
    let f : ℕ → SlotReport = λ i. slot_added v.asked c.args.states.now c.state-state.result c.state-last.result c.args.entry.now (told_by (heard_at (map (λ t. t.stream) c.args.tracks.now) c.args.played.now i)) i (report_at v.report.slots i) in
    let most = v.report.cycle + 1 in
    let lt : l.slot < slots = search rules in
    elim c.if-carries_item.branch [
      | then-carries_item w ↦
          let heard : w.heard_in-heard.result ≡ heard_at (map (λ t. t.stream) c.args.tracks.now) c.args.played.now l.slot = search rules in
          let here : w.slot.result ≡ f l.slot =
          w.slot.ensures.slot ∙ ap (λ (h : Heard). slot_added v.asked c.args.states.now c.state-state.result c.state-last.result c.args.entry.now (told_by h) l.slot (report_at v.report.slots l.slot)) heard in
          subst (λ (s : List SlotReport). AreAdded f v.report.slots s most (l.slot + 1)) (sym w.slots-is) (added-more f v.report.slots l.slots most l.slot w.slot.result l.invariant lt here w.slot.ensures.few)
      | else-carries_item w ↦
          let here = not-carried v.asked c.args.states.now c.state-state.result c.state-last.result c.args.entry.now (told_by (heard_at (map (λ t. t.stream) c.args.tracks.now) c.args.played.now l.slot)) l.slot (report_at v.report.slots l.slot) (sym c.carries_item.ensures ∙ w.if-carries_item.false) in
          let few = subst (λ (t : Telling). CountsUpTo (t.report.cycle + 1) (report_at t.report.slots l.slot)) c.self.view_is (counts-more c.self.inside.report.cycle (report_at c.self.inside.report.slots l.slot) (c.self.invariant.1 l.slot lt)) in
          subst (λ (s : List SlotReport). AreAdded f v.report.slots s most (l.slot + 1)) (sym w.slots-is) (added-same f v.report.slots l.slots most l.slot l.invariant here few)
    ]

pub returns : goal.returns
returns c =
    let v : Telling = c.args.self.now in
    let states = c.args.states.now in
    let entry = c.args.entry.now in
    let x : FastState = state_in v states entry.state in
    let y : FastState = state_in v states v.used in
    let heard = heard_slots c.args.tracks.now c.args.played.now in
    let f : ℕ → SlotReport = λ i. slot_added v.asked states x y entry (told_at_slot heard i) i (report_at v.report.slots i) in
    let used : c.self.inside.used ≡ v.used = ap (λ (t : Telling). t.used) c.self.view_is in
    let last : c.state-last.result ≡ y = c.state-last.ensures ∙ ap (λ n. state_in v states n) used in
    let known : (i : ℕ) → i < slots → heard_at (map (λ t. t.stream) c.args.tracks.now) c.args.played.now i ≡ get_or heard i nothing_heard =
    (λ i low. sym (get_or-map-range_with_len (heard_at (map (λ t. t.stream) c.args.tracks.now) c.args.played.now) 0 slots i i nothing_heard low (omega arith))) in
    let each : (i : ℕ) → i < slots → report_at c.loop-slot.slots i ≡ f i =
    (λ i low. c.loop-slot.invariant.each i (omega (arith, low))
    ∙ (ap (λ (z : FastState). slot_added v.asked states z c.state-last.result entry (told_by (heard_at (map (λ t. t.stream) c.args.tracks.now) c.args.played.now i)) i (report_at v.report.slots i)) c.state-state.ensures
    ∙ (ap (λ (z : FastState). slot_added v.asked states x z entry (told_by (heard_at (map (λ t. t.stream) c.args.tracks.now) c.args.played.now i)) i (report_at v.report.slots i)) last
    ∙ ap (λ (h : Heard). slot_added v.asked states x y entry (told_by h) i (report_at v.report.slots i)) (known i low)))) in
    let whole : c.loop-slot.slots ≡ map f (range_with_len 0 slots) = fill_by_all f c.loop-slot.slots slots no_slot c.loop-slot.invariant.long each in
    let asked : c.self-2.inside.asked ≡ v.asked = ap (λ (t : Telling). t.asked) c.self-2.view_is in
    let current : c.self-2.inside.current ≡ v.current = ap (λ (t : Telling). t.current) c.self-2.view_is in
    let draft : c.self-2.inside.draft ≡ v.draft = ap (λ (t : Telling). t.draft) c.self-2.view_is in
    let cycle : c.self-2.inside.report.cycle + 1 ≡ v.report.cycle + 1 = ap (λ (t : Telling). t.report.cycle + 1) c.self-2.view_is in
    λ j. record { asked = asked j; current = current j; used = entry.state; draft = draft j; report = record { cycle = cycle j; slots = whole j } }
