use Rattle.af_entry_law.proofs.laws.an_entry_tells_what_a_turn_leaves.Goals as goal
use Rattle.af_entry_law.proofs.SameTurns.{turns_same}

pub returns : goal.returns
returns c = turns_same
