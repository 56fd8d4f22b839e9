use Rattle.af_parties_law.proofs.telling.a_play_is_told_alone.Goals as goal
use Rattle.af_parties_law.proofs.ToldAlone.{cut_alone, done_alone}

pub returns : goal.returns
returns c = record { done = done_alone; limit = cut_alone }
