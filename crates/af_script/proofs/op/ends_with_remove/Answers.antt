use Rattle.std.proofs.Common.{sym, ◌∙◌}
use Rattle.af_script.proofs.Fronts.{ends_with_remove-last}
use Rattle.af_script.proofs.op.ends_with_remove.Goals as goal

pub returns-in-Some : goal.returns-in-Some
returns-in-Some c = c.is_remove.ensures ∙ sym (ends_with_remove-last c.args.ops.now c.in-Some.op.now c.in-Some.ensures.value)
