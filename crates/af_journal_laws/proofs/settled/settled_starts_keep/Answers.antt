use Rattle.af_journal_laws.proofs.settled.settled_starts_keep.Goals as goal
use Rattle.af_journal_laws.proofs.SettledSoFar.{settled-so-far}

pub returns : goal.returns
returns c = settled-so-far
