use Rattle.std.proofs.Common.{rules}
use Rattle.af_script.proofs.GeneratedScript.{generated_is}
use Rattle.af_script.proofs.generated.generated_script.Goals as goal

pub new-requires : goal.new-requires
new-requires c = rw (c.in_ok-tracks.ensures, c.in_ok-turns.ensures) generated_is
