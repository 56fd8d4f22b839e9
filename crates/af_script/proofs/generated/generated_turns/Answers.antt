use Rattle.std.proofs.Common.{rules}
use Rattle.af_script.specs.Generated.{repeated}
use Rattle.af_script.proofs.generated.generated_turns.Goals as goal

pub loop-round-init : goal.loop-round-init
unfolding repeated
loop-round-init c = search rules
