use Rattle.af_gain.specs.Narrow.{AreGainsOf}
use Rattle.af_gain.proofs.narrow.gains_of_each.Given as goal

abbrev pub invariant-loop-i : goal.invariant-loop-i
invariant-loop-i l = AreGainsOf l.i l.parts l.gains
