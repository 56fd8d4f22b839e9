use Rattle.af_stateq.proofs.Exact.{sees_the_ack}
use Rattle.af_stateq.proofs.laws.a_look_after_a_meeting_sees_the_last_acknowledgement.Goals as goal

pub returns : goal.returns
returns g c first os = sees_the_ack first os
