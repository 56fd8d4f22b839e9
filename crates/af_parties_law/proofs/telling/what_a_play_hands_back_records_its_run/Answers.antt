use Rattle.af_parties_law.proofs.telling.what_a_play_hands_back_records_its_run.Goals as goal
use Rattle.af_parties_law.proofs.ItsRun.{its_run}

pub returns : goal.returns
returns c = its_run
