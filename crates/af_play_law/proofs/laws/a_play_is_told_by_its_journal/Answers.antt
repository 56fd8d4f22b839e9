use Rattle.af_play_law.proofs.laws.a_play_is_told_by_its_journal.Goals as goal
use Rattle.af_play_law.proofs.PlayTold.{plays_told}

pub returns : goal.returns
returns c = plays_told
