use Rattle.af_enough_law.proofs.laws.a_cut_run_with_enough_cycles_is_long.Goals as goal
use Rattle.af_enough_law.proofs.LongRuns.{cut_long}

pub returns : goal.returns
returns c = cut_long
