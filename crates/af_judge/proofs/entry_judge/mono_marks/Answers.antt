use Rattle.std.proofs.Common.{◌≡◌, ap, sym, ◌∙◌, arith}
use Rattle.af_judge.proofs.Common.{mono_marks}
use Rattle.af_judge.proofs.SlotsIn.{marks_end}
use Rattle.af_judge.proofs.entry_judge.mono_marks.Goals as goal

pub returns : goal.returns
returns c =
    let used = c.slots_in-slot-end.result in
    let all : c.loop-slot.slot ≡ used = omega arith in
    c.loop-slot.invariant ∙ (ap (mono_marks c.args.state.now) all ∙ sym (marks_end c.args.state.now used c.slots_in-slot-end.ensures.few c.slots_in-slot-end.ensures.rest))
