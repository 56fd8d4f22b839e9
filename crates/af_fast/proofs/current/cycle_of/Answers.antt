use Rattle.std.proofs.Common.{sym, ap, ◌∙◌}
use Rattle.af_fast.proofs.Common.{cycle_of}
use Rattle.af_fast.proofs.LentState.{none_now}
use Rattle.af_fast.proofs.current.cycle_of.Goals as goal

pub returns-in-None : goal.returns-in-None
returns-in-None c = sym (ap (cycle_of c.args.done) (none_now c.args.observer.now c.requires c.in-None.ensures))

pub returns-in-Some : goal.returns-in-Some
returns-in-Some c = c.cycle_by.ensures ∙ sym (ap (cycle_of c.args.done) c.in-Some.ensures.2)
