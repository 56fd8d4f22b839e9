use Rattle.std.proofs.Common.{refl}
use Rattle.af_server.proofs.Common.{reads_gains}
use Rattle.af_base.specs.declared.event.ServerEvent.TheVariants as server
use Rattle.af_server.proofs.Kept.{word_keeps}
use Rattle.af_server.proofs.server.Server.gains.Goals as goal

pub returns-clause-ready : goal.returns-clause-ready
returns-clause-ready g c =
    (c.load_volume.ensures.made, word_keeps c.args.self.now _ c.load_volume.new.pass (server.SawGain c.load_volume.result) c.requires.ready.1 refl (reads_gains c.args.self.now.pass.part.events c.args.self.now.shown c.load_volume.result c.requires.ready.1.spelled) c.self.view_is c.load_volume.ensures.saw)
