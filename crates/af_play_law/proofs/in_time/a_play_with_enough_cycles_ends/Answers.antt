use Rattle.af_play_law.proofs.in_time.a_play_with_enough_cycles_ends.Goals as goal
use Rattle.af_play_law.proofs.InTime.{plays_end}

pub returns : goal.returns
returns c = plays_end
