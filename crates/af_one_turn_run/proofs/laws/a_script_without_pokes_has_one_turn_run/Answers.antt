use Rattle.af_one_turn_run.proofs.laws.a_script_without_pokes_has_one_turn_run.Goals as goal
use Rattle.af_one_turn_run.proofs.OneTurnRun.{one_turn_run}

pub returns : goal.returns
returns c = one_turn_run
