use Rattle.af_life.specs.Small.{IsSmall}
use Rattle.af_normal_tests.specs.Testing.{IsWorld}
use Rattle.af_normal_tests.proofs.random_tests.run.Given as goal

abbrev pub invariant-loop-turn : goal.invariant-loop-turn
invariant-loop-turn g l = record {
  world : IsWorld l.links l.world.mixer l.world.others.observer l.world.others.ends.0 l.world.others.ends.1 l.world.others.report l.world.others.streams.items l.world.others.commands.items;
  plain : IsSmall l.beside.plain.turns l.beside.plain.setup l.beside.plain.kept;
}
