use Rattle.std.proofs.Common.{◌≡◌, List, map}
use Rattle.af_judge.proofs.Common.{Listed}
use Rattle.af_judge.specs.Foresight.{server_of, slots_foreseen}
use Rattle.af_judge.proofs.slot_report.foresee_slots.Given as goal

abbrev pub invariant-loop-slot : goal.invariant-loop-slot
invariant-loop-slot l = (ss : List Listed) → l.fn.servers ≡ map server_of ss → l.servers ≡ map server_of (slots_foreseen l.asked l.state l.entry l.slot ss)
