use Rattle.af_enough_law.proofs.laws.enough_cycles_are_enough.Goals as goal
use Rattle.af_enough_law.proofs.NeverCut.{never-cut}

pub returns : goal.returns
returns c = never-cut
