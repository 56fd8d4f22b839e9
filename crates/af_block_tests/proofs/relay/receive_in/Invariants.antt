use Rattle.af_server.specs.Order.{IsServerOf}
use Rattle.af_block_tests.specs.Relay.{Received}
use Rattle.af_block_tests.proofs.relay.receive_in.Given as goal

abbrev pub invariant-loop : goal.invariant-loop
invariant-loop g l =
    record {
      ready : IsServerOf l.block l.server;
      received : Received l.clean l.all.items l.server.pass.part;
    }
