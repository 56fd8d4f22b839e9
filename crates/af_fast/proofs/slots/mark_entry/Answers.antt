use Rattle.std.proofs.Common.{◌≡◌, ℕ, suc, ◌+◌, ◌-◌, sym, ap, subst, refl, ◌∙◌, length, length-set, slice_set, slice_index_or, arith}
use Rattle.af_fast.proofs.Common.{CycleEntry, fill_by_more, get_or-replicate, get_or-set_other, get_or-set_same, is_mixed, mix_scale, mono_marks, slots}
use Rattle.af_fast.specs.Slots.{IsQuietFrom}
use Rattle.af_fast.proofs.Quiet.{marks_stay, scales_all}
use Rattle.af_fast.proofs.slots.mark_entry.Goals as goal

pub loop-slot-init : goal.loop-slot-init
loop-slot-init c =
    let still = c.requires.still in
    let whole : length c.args.entry.now.scales ≡ slots = ap (λ (e : CycleEntry). length e.scales) still in
    record {
      low = omega arith;
      state = refl;
      mixed = ap (λ (e : CycleEntry). is_mixed e.cycle) still;
      absent_all = ap (λ (e : CycleEntry). e.slots) still;
      whole = length-set c.args.entry.now.scales 0 4096 ∙ whole;
      scales = (λ i lt. subst (λ (j : ℕ). slice_index_or (slice_set c.args.entry.now.scales 0 4096) j 0 ≡ mix_scale c.args.state.now j) (let e : 0 ≡ i = omega (arith, lt) in e) (get_or-set_same c.args.entry.now.scales 0 4096 0 (omega (arith, whole))));
      unmarked = (λ i low lt. get_or-set_other c.args.entry.now.scales 0 i 4096 0 (λ e. absurd (omega (arith, low, e))) ∙ ap (λ (e : CycleEntry). slice_index_or e.scales i 0) still ∙ get_or-replicate slots i 0 0 lt);
      mono = ap (λ (e : CycleEntry). e.mono) still;
    }

pub loop-slot-preserved : goal.loop-slot-preserved
loop-slot-preserved c =
    let slot : ℕ = c.loop-slot.slot in
    let i = c.loop-slot.invariant in
    let next : suc slot ≡ slot + 1 = omega arith in
    let is = c.mark_slot.ensures.scale in
    record {
      low = omega arith;
      state = ap (λ (e : CycleEntry). e.state) is ∙ i.state;
      mixed = ap (λ (e : CycleEntry). is_mixed e.cycle) is ∙ i.mixed;
      absent_all = ap (λ (e : CycleEntry). e.slots) is ∙ i.absent_all;
      whole = ap (λ (e : CycleEntry). length e.scales) is ∙ length-set c.loop-slot.entry.scales slot (mix_scale c.args.state.now slot) ∙ i.whole;
      scales = (λ j lt. ap (λ (e : CycleEntry). slice_index_or e.scales j 0) is ∙ fill_by_more (mix_scale c.args.state.now) c.loop-slot.entry.scales slot 0 (omega (arith, i.whole)) i.scales j lt);
      unmarked = (λ j low lt. ap (λ (e : CycleEntry). slice_index_or e.scales j 0) is ∙ get_or-set_other c.loop-slot.entry.scales slot j (mix_scale c.args.state.now slot) 0 (λ e. absurd (omega (arith, low, e))) ∙ i.unmarked j (omega (arith, low)) lt);
      mono = c.mark_slot.ensures.mono i.mono ∙ ap (mono_marks c.args.state.now) next;
    }

pub returns : goal.returns
returns c =
    let i = c.loop-slot.invariant in
    let slot : ℕ = c.loop-slot.slot in
    let quiet : IsQuietFrom c.args.state.now slot = (λ j le. c.requires.quiet j (omega (arith, le))) in
    let all : slot + (slots - slot) ≡ slots = omega (arith, c.requires.used) in
    record {
      state = i.state;
      mixed = i.mixed;
      absent_all = i.absent_all;
      whole = i.whole;
      scales = scales_all c.args.state.now c.loop-slot.entry.scales slot i.low quiet i.scales i.unmarked;
      mono = i.mono ∙ sym (marks_stay c.args.state.now (slots - slot) slot quiet) ∙ ap (mono_marks c.args.state.now) all;
    }
