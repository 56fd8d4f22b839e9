use Rattle.af_play_law.proofs.laws.a_poll_finds_one_of_two_states.Goals as goal
use Rattle.af_play_law.proofs.RoundQueue.{find_one_of_two}

pub returns : goal.returns
returns c = find_one_of_two
