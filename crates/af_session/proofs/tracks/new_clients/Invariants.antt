use Rattle.af_session.proofs.Common.{AreNewClients, into_iter_items}
use Rattle.std.specs.Prelude.{◌≡◌, ◌++◌}
use Rattle.af_session.proofs.tracks.new_clients.Given as goal

abbrev pub invariant-loop-one : goal.invariant-loop-one
invariant-loop-one l = AreNewClients l.yielded l.clients.items × (l.fn.ends.items ≡ l.yielded ++ into_iter_items l.one-iterator)
