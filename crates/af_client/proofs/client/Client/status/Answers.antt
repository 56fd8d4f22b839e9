use Rattle.std.proofs.Common.{refl}
use Rattle.af_base.specs.declared.event.ClientCall.TheVariants as call
use Rattle.af_base.specs.declared.event.ClientEvent.TheVariants as client
use Rattle.af_client.proofs.Kept.{quiet_keeps}
use Rattle.af_client.proofs.client.Client.status.Goals as goal

pub returns-clause-ready : goal.returns-clause-ready
returns-clause-ready g c =
    (c.load_status.ensures.made, quiet_keeps c.args.self.now _ c.load_status.new.pass (call.Status c.load_status.result) (client.SawStatus c.load_status.result) c.requires.ready.1 tt refl refl refl c.self.view_is c.load_status.ensures.saw)
