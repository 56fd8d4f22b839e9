use Rattle.af_play_law.proofs.laws.the_ends_of_a_play_keep_its_lists.Goals as goal
use Rattle.af_play_law.proofs.KeptTold.{plays_keep}

pub returns : goal.returns
returns c = plays_keep
