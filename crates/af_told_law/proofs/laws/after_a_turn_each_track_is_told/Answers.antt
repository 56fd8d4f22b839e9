use Rattle.af_told_law.proofs.laws.after_a_turn_each_track_is_told.Goals as goal
use Rattle.af_told_law.proofs.PartsTold.{parts_told}

pub returns : goal.returns
returns c = parts_told
