use Rattle.std.proofs.Common.{length}
use Rattle.af_side_by_side.proofs.side_by_side.+clients.Given as goal

abbrev pub decreases-join_mut+arg2 : goal.decreases-join_mut+arg2
decreases-join_mut+arg2 g l = length l.front.now

abbrev pub decreases-join_mut+arg3 : goal.decreases-join_mut+arg3
decreases-join_mut+arg3 g l = length l.back.now

abbrev pub decreases-clients_turns : goal.decreases-clients_turns
decreases-clients_turns g l = length l.clients.now
