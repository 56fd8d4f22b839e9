use Rattle.std.proofs.Common.{refl}
use Rattle.af_base.specs.declared.event.ClientCall.TheVariants as call
use Rattle.af_base.specs.declared.event.ClientEvent.TheVariants as client
use Rattle.af_client.proofs.Kept.{quiet_keeps}
use Rattle.af_client.proofs.client.Client.clear_disabled.Goals as goal

pub returns-clause-ready : goal.returns-clause-ready
returns-clause-ready g c =
    (c.clear_flags.ensures.made, quiet_keeps c.args.self.now _ c.clear_flags.new.pass (call.Cleared c.clear_flags.result) (client.ClearFlags c.clear_flags.result) c.requires.ready.1 tt refl refl refl c.self.view_is c.clear_flags.ensures.cleared)
