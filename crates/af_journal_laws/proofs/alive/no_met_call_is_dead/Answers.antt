use Rattle.af_journal_laws.proofs.alive.no_met_call_is_dead.Goals as goal
use Rattle.af_journal_laws.proofs.AliveMet.{met-calls-live}

pub returns : goal.returns
returns c = met-calls-live
