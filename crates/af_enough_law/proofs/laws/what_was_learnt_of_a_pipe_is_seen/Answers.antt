use Rattle.af_enough_law.proofs.laws.what_was_learnt_of_a_pipe_is_seen.Goals as goal
use Rattle.af_enough_law.proofs.SeenShared.{room_seen, rear_seen}

pub returns : goal.returns
returns c = record { room = room_seen; rear = rear_seen }
