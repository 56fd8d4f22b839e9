use Rattle.af_play_law.proofs.laws.the_rounds_of_a_play_are_told.Goals as goal
use Rattle.af_play_law.proofs.RunTold.{runs_told}

pub returns : goal.returns
returns c = runs_told
