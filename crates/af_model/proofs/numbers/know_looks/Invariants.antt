use Rattle.std.proofs.Common.{take}
use Rattle.af_model.proofs.Common.{All}
use Rattle.af_model.specs.Numbers.{FitsLook}
use Rattle.af_model.proofs.numbers.know_looks.Given as goal

abbrev pub invariant-loop-i : goal.invariant-loop-i
invariant-loop-i l = All FitsLook (take l.i l.looks)
