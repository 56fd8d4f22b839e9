use Rattle.std.proofs.Common.{take}
use Rattle.af_model.proofs.Common.{All}
use Rattle.af_model.specs.Numbers.{FitsEntry}
use Rattle.af_model.proofs.numbers.know_log.Given as goal

abbrev pub invariant-loop-i : goal.invariant-loop-i
invariant-loop-i l = All FitsEntry (take l.i l.log.entries)
