use Rattle.std.proofs.Common.{arith}
use Rattle.af_normal_tests.proofs.table_tests.plays_in.Goals as goal

pub join-requires : goal.join-requires
join-requires g c =
    let l = c.links-links.ensures in
    let all = c.in_ok-shared.ensures c.links-links.result l.queue l.streams l.commands l.pipe l.report in
    let count = c.requires.count in
    record { sizes = c.requires.sizes; count = (omega (arith, all.1, count.0), omega (arith, all.1, count.1)); scales = all.2; new = all.0; others = all.3 }
