use Rattle.std.proofs.Common.{refl}
use Rattle.af_server.proofs.Common.{sets_flags}
use Rattle.af_base.specs.declared.event.ServerEvent.TheVariants as server
use Rattle.af_server.proofs.Kept.{word_keeps}
use Rattle.af_server.proofs.server.Server.set_flags.Goals as goal

pub returns-clause-ready : goal.returns-clause-ready
returns-clause-ready g c =
    (c.set_flags.ensures.made, word_keeps c.args.self.now _ c.set_flags.new.pass (server.SetFlags c.args.bits) c.requires.ready.1 refl (sets_flags c.args.self.now.pass.part.events c.args.self.now.shown c.args.bits c.requires.ready.1.spelled) c.self.view_is c.set_flags.ensures.set)
