use Rattle.af_stateq.proofs.NewEnds.{new_agree}
use Rattle.af_stateq.proofs.laws.new_ends_are_the_new_queue.Goals as goal

pub returns : goal.returns
returns g c frames key m o n p = new_agree frames key m o n p
