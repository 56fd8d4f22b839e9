use Rattle.af_told_law.proofs.laws.a_mix_is_told.Goals as goal
use Rattle.af_told_law.proofs.MixTold.{mix_told}

pub returns : goal.returns
returns c = λ s links run d x g out answer out'. mix_told links s run d x g out answer out'
