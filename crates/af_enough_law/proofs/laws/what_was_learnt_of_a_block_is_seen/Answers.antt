use Rattle.af_enough_law.proofs.laws.what_was_learnt_of_a_block_is_seen.Goals as goal
use Rattle.af_enough_law.proofs.SeenBlocks.{front_seen, status_seen, block_rear_seen}

pub returns : goal.returns
returns c = record { front = front_seen; status = status_seen; rear = block_rear_seen }
