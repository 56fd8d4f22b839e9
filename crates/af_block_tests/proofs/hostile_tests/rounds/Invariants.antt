use Rattle.af_client.specs.Order.{IsClientOf}
use Rattle.af_server.specs.Order.{IsServerOf}
use Rattle.af_block_tests.proofs.hostile_tests.rounds.Given as goal

abbrev pub invariant-loop-number : goal.invariant-loop-number
invariant-loop-number g l =
    record {
      stream_client : IsClientOf l.blocks.stream l.clients.stream.proxy;
      command_client : IsClientOf l.blocks.command l.clients.command.proxy;
      stream_server : IsServerOf l.blocks.stream l.servers.stream.proxy;
      command_server : IsServerOf l.blocks.command l.servers.command.proxy;
    }
