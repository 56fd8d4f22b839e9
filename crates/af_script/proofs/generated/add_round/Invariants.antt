use Rattle.std.proofs.Common.{◌≡◌, ◌++◌, map}
use Rattle.af_script.proofs.Common.{range_with_len}
use Rattle.af_script.specs.declared.op.TurnSpec.TheVariants.{Client}
use Rattle.af_script.proofs.generated.add_round.Given as goal

abbrev pub invariant-loop-track : goal.invariant-loop-track
invariant-loop-track l = l.turns.items ≡ l.fn.turns.items ++ map Client (range_with_len 0 l.track)
