use Rattle.std.proofs.Common.{◌≡◌, ℕ, ◌+◌}
use Rattle.af_stateq.specs.Mutates.{Mutates}
use Rattle.af_stateq.specs.Answers.{UntilPushed, waited}
use Rattle.af_stateq.proofs.mutator.Mutator.push_until_acked.Given as goal

abbrev pub invariant-loop : goal.invariant-loop
invariant-loop g l = (w : Mutates g.row.P.Denot g.row.N-Key.Denot) × (t : ℕ) × UntilPushed l.fn.self l.answer w l.fn.steps t × ((n : ℕ) × (l.self ≡ waited n w) × (l.steps ≡ t + n))
