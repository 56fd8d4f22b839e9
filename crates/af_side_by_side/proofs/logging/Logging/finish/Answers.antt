use Rattle.std.proofs.Common.{subst}
use Rattle.af_side_by_side.proofs.Common.{HasAudited, HasMetLog, LoggingState}
use Rattle.af_side_by_side.proofs.LogEnds.{finished}
use Rattle.af_side_by_side.proofs.logging.Logging.finish.Goals as goal

pub returns : goal.returns
returns g c = λ frames room journal h.
    let a = c.read_in.new.self in
    let audited = subst (λ (x : LoggingState). HasAudited x.auditor a) c.self.view_is c.read_in.ensures in
    let met = subst (λ (x : LoggingState). HasMetLog (record x { auditor = a }) c.meet.new.self) c.self.view_is c.meet.ensures.met in
    finished frames room journal c.args.self.now a c.meet.new.self h audited met
