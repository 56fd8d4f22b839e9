use Rattle.af_journal_laws.proofs.fates.met_frames_of_turn_runs_have_one_fate.Goals as goal
use Rattle.af_journal_laws.proofs.FatesMet.{met-frames-have-fates-alone}

pub returns : goal.returns
returns c = met-frames-have-fates-alone
