use Rattle.af_play_law.proofs.laws.what_was_polled_before_a_push_stands_before_it.Goals as goal
use Rattle.af_play_law.proofs.CutBehind.{stand_before_push}

pub returns : goal.returns
returns c = stand_before_push
