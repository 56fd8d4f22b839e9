use Rattle.af_static.proofs.Cuts.{one_call}
use Rattle.af_static.proofs.laws.two_calls_alike_are_one.Goals as goal

pub returns : goal.returns
returns c = one_call
