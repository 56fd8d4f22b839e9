use Rattle.std.proofs.Common.{◌≡◌, subst}
use Rattle.af_judge.proofs.Common.{front_of}
use Rattle.af_judge.specs.Blocks.{BlockJudged, listed_in}
use Rattle.af_judge.proofs.block_judge.BlockJudge.front_told.Goals as goal

pub returns : goal.returns
returns c =
    let P : BlockJudged → Type 0 = λ j. c.front_told.result ≡ front_of c.args.asked (listed_in j) c.args.slot.now in
    subst P c.self.view_is (c.front_told.ensures (record { shape = c.self.inside.server.shape; events = c.self.inside.lists.server }) c.self.invariant.server_is)
