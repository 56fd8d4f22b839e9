use Rattle.std.proofs.Common.{subst}
use Rattle.af_judge.specs.Blocks.{BlockJudged, listed_in}
use Rattle.af_judge.specs.Servers.{IsServerOf}
use Rattle.af_judge.proofs.block_judge.BlockJudge.server.Goals as goal

pub returns : goal.returns
returns c =
    let P : BlockJudged → Type 0 = λ j. IsServerOf (listed_in j) c.self.inside.server in
    subst P c.self.view_is c.self.invariant.server_is
