use Rattle.af_normal_tests.specs.Testing.{IsWorld}
use Rattle.af_normal_tests.proofs.table_tests.play_all.Given as goal

abbrev pub invariant-loop-rows : goal.invariant-loop-rows
invariant-loop-rows g l =
    let o = l.world.others in
    IsWorld l.links l.world.mixer o.observer o.ends.0 o.ends.1 o.report o.streams.items o.commands.items
