use Rattle.std.proofs.Common.{◌+◌, ◌≤◌, List, length}
use Rattle.af_gain.proofs.Common.{Take}
use Rattle.af_gain.specs.Eight.{AreEightOf}
use Rattle.af_gain.specs.Narrow.{AreMixedTo}
use Rattle.af_gain.proofs.narrow.write_eight.Given as goal

abbrev pub invariant-loop-k : goal.invariant-loop-k
invariant-loop-k l = (takes : List Take) → length takes ≤ 15 → AreEightOf takes l.at l.fn.sums → AreMixedTo l.at takes l.fn.out → AreMixedTo (l.at + l.k) takes l.out
