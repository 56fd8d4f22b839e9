use Rattle.af_client.specs.Order.{IsClientOf}
use Rattle.af_server.specs.Order.{IsServerOf}
use Rattle.af_block_tests.proofs.call_tests.all_answer.Given as goal

abbrev pub invariant-loop-part : goal.invariant-loop-part
invariant-loop-part g l = record { client : IsClientOf l.block l.client; server : IsServerOf l.block l.server }

abbrev pub invariant-loop-call : goal.invariant-loop-call
invariant-loop-call g l = record { client : IsClientOf l.block l.client; server : IsServerOf l.block l.server }
