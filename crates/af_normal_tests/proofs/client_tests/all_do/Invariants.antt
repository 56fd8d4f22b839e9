use Rattle.std.proofs.Common.{length}
use Rattle.af_server.specs.Order.{IsServerOf}
use Rattle.af_normal.specs.Meeting.{AreClientsOf}
use Rattle.af_party.specs.Works.{CanWork}
use Rattle.af_normal_tests.proofs.client_tests.all_do.Given as goal

abbrev pub invariant-loop-step : goal.invariant-loop-step
invariant-loop-step g l = record {
  clients : AreClientsOf l.links l.party.track l.party.stream l.party.command;
  work : CanWork l.ops (length l.file) l.party;
  servers : IsServerOf l.stream l.servers.0 × IsServerOf l.command l.servers.1;
}
