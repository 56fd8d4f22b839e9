use Rattle.std.proofs.Common.{refl}
use Rattle.af_base.specs.declared.event.ClientCall.TheVariants as call
use Rattle.af_base.specs.declared.event.ClientEvent.TheVariants as client
use Rattle.af_client.proofs.Kept.{quiet_keeps}
use Rattle.af_client.proofs.client.Client.set_gains.Goals as goal

pub returns-clause-ready : goal.returns-clause-ready
returns-clause-ready g c =
    (c.store_volume.ensures.made, quiet_keeps c.args.self.now _ c.store_volume.new.pass (call.Gain c.args.word) (client.SetGain c.args.word) c.requires.ready.1 tt refl refl refl c.self.view_is c.store_volume.ensures.stored)
