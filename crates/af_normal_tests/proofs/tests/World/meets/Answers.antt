use Rattle.std.proofs.Common.{arith}
use Rattle.af_normal_tests.proofs.tests.World.meets.Goals as goal

pub clients_meet-so-requires-clause-track : goal.clients_meet-so-requires-clause-track
clients_meet-so-requires-clause-track g c = omega (arith, c.requires.order.turns.together)
