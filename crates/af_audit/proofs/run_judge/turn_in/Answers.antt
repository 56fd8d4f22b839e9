use Rattle.af_audit.proofs.Common.{turn_of}
use Rattle.af_audit.proofs.RoundParts.{turn_told}
use Rattle.af_audit.proofs.run_judge.turn_in.Goals as goal

pub returns-clause-form : goal.returns-clause-form
returns-clause-form c = turn_told (λ e. turn_of e.now) c.args.journal.now c.args.round c.turn.result c.log-log.ensures.form c.requires c.turn.ensures
