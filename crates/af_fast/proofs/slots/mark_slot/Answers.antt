use Rattle.std.proofs.Common.{◌≡◌, ◌&&◌, ◌^◌, Bool, false, if◌then◌else◌, sym, ap, ◌∙◌}
use Rattle.af_fast.proofs.Common.{bit_or, is_mono, mono_marks, or_zero_r, slot_of}
use Rattle.af_fast.proofs.slots.mark_slot.Goals as goal

pub returns-else-carries_item-clause-mono : goal.returns-else-carries_item-clause-mono
returns-else-carries_item-clause-mono c = λ are.
    let none : is_mono c.args.state.now c.args.slot ≡ false = ap (λ (b : Bool). b && (slot_of c.args.state.now c.args.slot).mono) (sym c.carries_item.ensures ∙ c.if-carries_item.false) in
    are ∙ sym (or_zero_r (mono_marks c.args.state.now c.args.slot))
    ∙ ap (λ (mono : Bool). bit_or (mono_marks c.args.state.now c.args.slot) (if mono then 2 ^ c.args.slot else 0)) (sym none)
