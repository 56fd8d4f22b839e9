use Rattle.af_enough_law.proofs.laws.what_was_learnt_of_a_report_is_seen.Goals as goal
use Rattle.af_enough_law.proofs.SeenShared.{load_seen}

pub returns : goal.returns
returns c = load_seen
