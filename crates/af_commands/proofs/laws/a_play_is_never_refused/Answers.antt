use Rattle.af_commands.proofs.laws.a_play_is_never_refused.Goals as goal
use Rattle.af_commands.proofs.PlaysJudged.{play_found_legal}

pub returns : goal.returns
returns c = play_found_legal
