use Rattle.af_journal.proofs.laws.what_is_written_is_read_back.Goals as goal
use Rattle.af_journal.proofs.OneJournal.{read-back}

pub returns : goal.returns
returns c = read-back
