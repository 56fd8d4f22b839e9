use Rattle.af_journal_laws.proofs.ended.a_legal_run_ends_with_a_meeting.Goals as goal
use Rattle.af_journal_laws.proofs.MeetsLast.{holds-to-the-end}

pub returns : goal.returns
returns c = holds-to-the-end
