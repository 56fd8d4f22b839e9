use Rattle.std.proofs.Common.{refl}
use Rattle.af_server.proofs.Common.{sets_status}
use Rattle.af_base.specs.declared.event.ServerEvent.TheVariants as server
use Rattle.af_server.proofs.Kept.{word_keeps}
use Rattle.af_server.proofs.server.Server.set_status.Goals as goal

pub returns-clause-ready : goal.returns-clause-ready
returns-clause-ready g c =
    (c.store_status.ensures.made, word_keeps c.args.self.now _ c.store_status.new.pass (server.SetStatus c.args.word) c.requires.ready.1 refl (sets_status c.args.self.now.pass.part.events c.args.self.now.shown c.args.word c.requires.ready.1.spelled) c.self.view_is c.store_status.ensures.stored)
