use Rattle.af_normal_tests.specs.Testing.{IsWorld}
use Rattle.af_normal_tests.proofs.random_tests.moves.Given as goal

abbrev pub invariant-loop-track : goal.invariant-loop-track
invariant-loop-track g l =
    IsWorld l.links l.world.mixer l.world.others.observer l.world.others.ends.0 l.world.others.ends.1 l.world.others.report l.world.others.streams.items l.world.others.commands.items
