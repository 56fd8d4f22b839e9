use Rattle.std.proofs.Common.{length}
use Rattle.af_base.proofs.plain.+left_sum.Given as goal

abbrev pub decreases-left_sum : goal.decreases-left_sum
decreases-left_sum l = length l.parts.now
