use Rattle.af_enough_law.proofs.laws.enough_cycles_end_all.Goals as goal
use Rattle.af_enough_law.proofs.NeverCut.{rounds_end_in_time}

pub returns : goal.returns
returns c = rounds_end_in_time
