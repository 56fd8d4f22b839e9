use Rattle.std.proofs.Common.{◌+◌, ◌*◌}
use Rattle.af_gain.specs.Sums.{IsGrownTo}
use Rattle.af_gain.proofs.adding.add_sixteens.Given as goal

abbrev pub invariant-loop-sixteen : goal.invariant-loop-sixteen
invariant-loop-sixteen l = IsGrownTo (16 * l.sixteen) l.frames l.mono l.fn.gains l.fn.sums l.sums

abbrev pub invariant-loop-four : goal.invariant-loop-four
invariant-loop-four l = IsGrownTo (16 * l.sixteen + 4 * l.four) l.frames l.mono l.fn.gains l.fn.sums l.sums
