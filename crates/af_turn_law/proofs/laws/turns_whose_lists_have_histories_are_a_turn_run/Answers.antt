use Rattle.af_turn_law.proofs.laws.turns_whose_lists_have_histories_are_a_turn_run.Goals as goal
use Rattle.af_turn_law.proofs.RunBegins.{forced_run}

pub returns : goal.returns
returns c = forced_run
