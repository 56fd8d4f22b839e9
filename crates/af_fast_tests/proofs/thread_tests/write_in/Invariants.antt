use Rattle.af_client.specs.Order.{IsClientOf}
use Rattle.af_fast_tests.proofs.thread_tests.write_in.Given as goal

abbrev pub invariant-loop : goal.invariant-loop
invariant-loop g l = IsClientOf l.block l.client
