use Rattle.af_client.proofs.Kept.{new_keeps}
use Rattle.af_client.proofs.client.Client.with.Goals as goal

pub returns-clause-ready : goal.returns-clause-ready
returns-clause-ready c =
    (c.requires.made, new_keeps c.args.block.now.shape c.args.pass.part c.base-rear.result c.requires.new c.base-rear.ensures c.base-rear.type_inv)
