use Rattle.std.proofs.Common.{length}
use Rattle.af_base.proofs.plain.+right_sum.Given as goal

abbrev pub decreases-right_sum : goal.decreases-right_sum
decreases-right_sum l = length l.parts.now
