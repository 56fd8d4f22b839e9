use Rattle.af_stateq.proofs.Prefix.{polled_in_order}
use Rattle.af_stateq.proofs.laws.polled_are_pushed.Goals as goal

pub returns : goal.returns
returns g c first ms os h = polled_in_order first ms os h
