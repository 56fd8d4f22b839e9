use Rattle.af_journal_laws.proofs.spared.met_blocks_of_turn_runs_are_spared.Goals as goal
use Rattle.af_journal_laws.proofs.Turns.{met-blocks-are-spared-alone}

pub returns : goal.returns
returns c = met-blocks-are-spared-alone
