use Rattle.std.proofs.Common.{sym, ap, ◌∙◌}
use Rattle.af_fast.proofs.Common.{FastState, carried}
use Rattle.std.proofs.Common.{Option}
use Rattle.af_fast.proofs.report.report_slot.Goals as goal

pub was_carried-goes_on-requires-clause-kept : goal.was_carried-goes_on-requires-clause-kept
was_carried-goes_on-requires-clause-kept c = λ kept.
    ap (λ (s : Option FastState). carried s c.args.slot) (c.requires.kept kept ∙ c.in-Some.ensures.2) ∙ sym c.carries_item.ensures ∙ c.if-not-carries_item.false
