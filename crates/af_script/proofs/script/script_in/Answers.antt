use Rattle.std.proofs.Common.{◌≡◌, ◌*◌, arith, rules}
use Rattle.af_script.proofs.Common.{items_view, table_view}
use Rattle.af_script.proofs.Sound.{script-keeps}
use Rattle.af_script.proofs.script.script_in.Goals as goal

pub invariant_of-result : goal.invariant_of-result
invariant_of-result c =
    let product : c.from.result * c.from-2.result ≡ c.in_ok-top.top.cycles * c.in_ok-top.top.frames = cc in
    script-keeps (table_view c.args.table.now) c.in_ok-top.top (items_view c.in_ok-tables.tables.now) (items_view c.in_ok-texts.texts.now) c.in_ok-tracks.tracks.items c.in_ok-turns.turns.items
    (search rules) c.in_ok-tables.ensures.items c.in_ok-tracks.ensures.tracks (search rules) (omega (arith, product))
