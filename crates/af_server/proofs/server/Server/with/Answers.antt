use Rattle.af_server.proofs.Kept.{new_keeps}
use Rattle.af_server.proofs.server.Server.with.Goals as goal

pub returns-clause-ready : goal.returns-clause-ready
returns-clause-ready c = (c.requires.made, new_keeps c.args.block.now.shape c.args.pass.part c.base-front.result c.requires.new)
