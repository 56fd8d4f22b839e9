use Rattle.std.proofs.Common.{◌+◌, ◌*◌}
use Rattle.af_gain.specs.Sums.{IsGrownTo}
use Rattle.af_gain.proofs.adding.add_whole.Given as goal

abbrev pub invariant-loop-four : goal.invariant-loop-four
invariant-loop-four l = IsGrownTo (l.whole + 4 * l.four) l.frames l.mono l.fn.gains l.fn.sums l.sums

abbrev pub invariant-loop-i : goal.invariant-loop-i
invariant-loop-i l = IsGrownTo l.i l.frames l.mono l.fn.gains l.fn.sums l.sums
