use Rattle.std.proofs.Common.{◌≡◌, ◌≤◌, length, map, take, true}
use Rattle.af_base.specs.Sample.{packed_word}
use Rattle.af_model.specs.History.{is_lawful}
use Rattle.af_client.specs.Order.{IsClientOf}
use Rattle.af_block_tests.proofs.relay.send_in.Given as goal

abbrev pub invariant-loop : goal.invariant-loop
invariant-loop g l =
    record {
      ready : IsClientOf l.block l.client;
      lawful : is_lawful l.client.pass.part.events ≡ true;
      within : l.next ≤ length l.frames;
      sent : l.client.pass.part.frames ≡ map packed_word (take l.next l.frames);
      released : l.client.released ≡ l.next;
    }
