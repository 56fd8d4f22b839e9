use Rattle.af_static.specs.Ends.{IsPlayerOf}
use Rattle.af_journal_tests.proofs.static_tests.plays.Given as goal

abbrev pub invariant-loop : goal.invariant-loop
invariant-loop g l = IsPlayerOf l.shared l.player
