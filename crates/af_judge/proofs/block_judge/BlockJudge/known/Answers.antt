use Rattle.std.proofs.Common.{◌≡◌, subst}
use Rattle.af_judge.proofs.Common.{known_by}
use Rattle.af_judge.specs.Blocks.{BlockJudged, listed_in}
use Rattle.af_judge.proofs.block_judge.BlockJudge.known.Goals as goal

pub returns : goal.returns
returns c =
    let P : BlockJudged → Type 0 = λ j. c.known.result ≡ known_by (listed_in j) in
    subst P c.self.view_is (c.known.ensures (record { shape = c.self.inside.server.shape; events = c.self.inside.lists.server }) c.self.invariant.server_is)
