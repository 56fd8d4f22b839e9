use Rattle.af_enough_law.proofs.laws.what_was_learnt_of_a_queue_is_seen.Goals as goal
use Rattle.af_enough_law.proofs.SeenShared.{ack_seen, next_seen}

pub returns : goal.returns
returns c = record { ack = ack_seen; next = next_seen }
