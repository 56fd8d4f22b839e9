use Rattle.std.proofs.Common.{Bool, if◌then◌else◌, sym, ap, ◌∙◌, ◌^◌}
use Rattle.af_judge.proofs.Common.{mono_marks}
use Rattle.std.specs.Int.Bits.{bit_or, or_zero_r}
use Rattle.af_judge.proofs.entry_judge.marks_to.Goals as goal

pub returns : goal.returns
returns c = λ are.
    are ∙ sym (or_zero_r (mono_marks c.args.state.now c.args.slot))
    ∙ ap (λ (mono : Bool). bit_or (mono_marks c.args.state.now c.args.slot) (if mono then 2 ^ c.args.slot else 0)) (sym c.if-is_mono.false ∙ c.is_mono.ensures)
