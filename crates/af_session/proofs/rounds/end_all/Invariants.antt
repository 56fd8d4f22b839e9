use Rattle.std.proofs.Common.{◌≡◌, ◌++◌, take, drop, map}
use Rattle.af_session.proofs.Common.{end_party}
use Rattle.af_session.proofs.rounds.end_all.Given as goal

abbrev pub invariant-loop-client : goal.invariant-loop-client
invariant-loop-client l = l.clients ≡ map end_party (take l.client-index l.fn.clients) ++ drop l.client-index l.fn.clients
