use Rattle.af_audit.proofs.settled.a_start_seen_settled_bounds_what_is_discarded.Goals as goal
use Rattle.af_audit.proofs.SettledTold.{settled}

pub returns : goal.returns
returns c = settled
