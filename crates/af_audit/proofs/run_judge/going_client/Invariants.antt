use Rattle.std.proofs.Common.{◌≡◌, ◌<◌, ℕ, true}
use Rattle.af_audit.specs.RunKept.{client_ended}
use Rattle.af_audit.proofs.run_judge.going_client.Given as goal

abbrev pub invariant-loop-at : goal.invariant-loop-at
invariant-loop-at l = (i : ℕ) → i < l.at → client_ended l.tracks i ≡ true
