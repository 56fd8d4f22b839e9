use Rattle.std.proofs.Common.{take}
use Rattle.af_model.proofs.Common.{All}
use Rattle.af_model.proofs.numbers.know_clients.Given as goal
use Rattle.af_model.specs.Numbers.{FitsCall}

abbrev pub invariant-loop-i : goal.invariant-loop-i
invariant-loop-i l = All (λ calls. All FitsCall calls.items) (take l.i l.clients)
