use Rattle.std.proofs.Common.{◌≡◌, true, false, ◌∷◌, replicate}
use Rattle.af_judge.proofs.queue_judge.begin.Given as goal

abbrev pub invariant-loop : goal.invariant-loop
invariant-loop l = l.counts.items ≡ true ∷ replicate l.counter false
