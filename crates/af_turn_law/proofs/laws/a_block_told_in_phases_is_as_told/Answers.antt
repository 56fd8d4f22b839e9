use Rattle.af_turn_law.proofs.laws.a_block_told_in_phases_is_as_told.Goals as goal
use Rattle.af_turn_law.proofs.BlockForced.{block_forced}

pub returns : goal.returns
returns c = block_forced
