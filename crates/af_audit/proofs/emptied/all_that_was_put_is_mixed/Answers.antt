use Rattle.af_audit.proofs.EmptiedTold.{pipe-is-emptied}
use Rattle.af_audit.proofs.emptied.all_that_was_put_is_mixed.Goals as goal

pub returns : goal.returns
returns c = pipe-is-emptied
