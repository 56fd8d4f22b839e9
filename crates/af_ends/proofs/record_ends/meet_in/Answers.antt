use Rattle.std.proofs.Common.{ap}
use Rattle.af_record.specs.Ends.{CaptureState}
use Rattle.af_ends.proofs.record_ends.meet_in.Goals as goal

pub returns-clause-met : goal.returns-clause-met
returns-clause-met g c = (c.args.capture.now.pass.part.events, ap (λ (x : CaptureState). x.pass.part.events) c.meet_record.ensures.from, c.meet_record.ensures.to)
