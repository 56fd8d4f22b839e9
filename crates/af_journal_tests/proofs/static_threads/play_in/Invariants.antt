use Rattle.af_static.specs.Ends.{IsPlayerOf}
use Rattle.af_journal_tests.proofs.static_threads.play_in.Given as goal

abbrev pub invariant-loop : goal.invariant-loop
invariant-loop g l = IsPlayerOf l.shared l.player
