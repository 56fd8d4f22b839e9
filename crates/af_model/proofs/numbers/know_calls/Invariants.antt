use Rattle.std.proofs.Common.{take}
use Rattle.af_model.proofs.Common.{All}
use Rattle.af_model.specs.Numbers.{FitsCall}
use Rattle.af_model.proofs.numbers.know_calls.Given as goal

abbrev pub invariant-loop-i : goal.invariant-loop-i
invariant-loop-i l = All FitsCall (take l.i l.calls)
