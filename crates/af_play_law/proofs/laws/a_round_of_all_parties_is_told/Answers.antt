use Rattle.af_play_law.proofs.laws.a_round_of_all_parties_is_told.Goals as goal
use Rattle.af_play_law.proofs.StandsAfter.{rounds_told}

pub returns : goal.returns
returns c = rounds_told
