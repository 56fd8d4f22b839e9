use Rattle.std.proofs.Common.{◌≡◌}
use Rattle.af_script.specs.Generated.{repeated, generated_round}
use Rattle.af_script.proofs.generated.generated_turns.Given as goal

abbrev pub invariant-loop-round : goal.invariant-loop-round
invariant-loop-round l = l.turns.items ≡ repeated l._round generated_round
