use Rattle.std.proofs.Common.{take}
use Rattle.af_model.proofs.Common.{All, NormalTake, take_seen}
use Rattle.af_model.specs.Numbers.{FitsTake}
use Rattle.af_model.proofs.numbers.know_takes.Given as goal

abbrev pub invariant-loop-i : goal.invariant-loop-i
invariant-loop-i l = All (λ (t : NormalTake). FitsTake (take_seen t)) (take l.i l.takes)
