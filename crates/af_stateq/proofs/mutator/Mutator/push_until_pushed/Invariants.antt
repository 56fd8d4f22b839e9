use Rattle.std.proofs.Common.{◌≡◌, ℕ, ◌+◌, ◌<◌, true}
use Rattle.af_stateq.specs.Answers.{waited}
use Rattle.af_stateq.proofs.mutator.Mutator.push_until_pushed.Given as goal

abbrev pub invariant-loop : goal.invariant-loop
invariant-loop g l = (n : ℕ) × (l.self ≡ waited n l.fn.self) × (l.steps ≡ l.fn.steps + n) × (0 < n → l.fn.self.dirty ≡ true)
