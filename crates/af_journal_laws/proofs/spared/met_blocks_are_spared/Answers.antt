use Rattle.af_journal_laws.proofs.spared.met_blocks_are_spared.Goals as goal
use Rattle.af_journal_laws.proofs.SparedMet.{met-blocks-are-spared}

pub returns : goal.returns
returns c = met-blocks-are-spared
