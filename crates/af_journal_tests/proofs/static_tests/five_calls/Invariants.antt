use Rattle.af_static.specs.Ends.{IsPlayerOf}
use Rattle.af_journal_tests.proofs.static_tests.five_calls.Given as goal

abbrev pub invariant-loop-i : goal.invariant-loop-i
invariant-loop-i g l = IsPlayerOf l.shared l.player
