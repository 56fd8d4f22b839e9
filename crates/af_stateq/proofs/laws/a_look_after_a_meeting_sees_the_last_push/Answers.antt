use Rattle.af_stateq.proofs.Exact.{sees_the_last}
use Rattle.af_stateq.proofs.laws.a_look_after_a_meeting_sees_the_last_push.Goals as goal

pub returns : goal.returns
returns g c first ms = sees_the_last first ms
