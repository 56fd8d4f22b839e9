use Rattle.std.proofs.Common.{arith, ◌↔◌, IsTrue, subst}
use Rattle.af_judge.proofs.Common.{Listed}
use Rattle.af_judge.specs.Blocks.{BlockJudged, listed_in}
use Rattle.af_judge.specs.Servers.{LooksRightly}
use Rattle.af_judge.proofs.SomeFront.{looks_rightly}
use Rattle.af_judge.proofs.block_judge.BlockJudge.answers.Goals as goal

pub returns : goal.returns
returns c =
    let P : BlockJudged → Type 0 = λ j. IsTrue c.answers.result ↔ LooksRightly j.lawful c.args.asked (listed_in j) c.args.slot in
    let s : Listed = record { shape = c.self.inside.server.shape; events = c.self.inside.lists.server } in
    subst P c.self.view_is
    (looks_rightly c.self.inside.lawful c.answers.result c.args.asked s c.args.slot (let r = c.rear_of-rear.ensures in let w = c.rear_of-rear.type_inv in omega (arith, r, w)) c.self.invariant.wrap_few (c.answers.ensures s c.self.invariant.server_is))
