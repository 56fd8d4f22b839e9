use Rattle.std.proofs.Common.{◌+◌, ◌<◌, List, length, length-take, map, take, sym, subst, arith}
use Rattle.af_gain.proofs.Common.{Take, length-map, map_more, no_part, take_of}
use Rattle.af_gain.specs.Eight.{AreSixteenOf}
use Rattle.af_gain.proofs.narrow.sixteen_sums.Goals as goal

pub loop-i-init : goal.loop-i-init
loop-i-init c = record { low = c.no_sums-none.ensures c.args.at; high = c.no_sums-none.ensures (c.args.at + 8) }

pub loop-i-preserved : goal.loop-i-preserved
loop-i-preserved c =
    let inside : c.loop-i.i < length c.args.parts.now = omega arith in
    let few : length (map take_of (take c.loop-i.i c.args.parts.now)) < 15 = omega (arith, length-map (take c.loop-i.i c.args.parts.now) take_of, length-take c.loop-i.i c.args.parts.now, c.requires.few) in
    subst (λ (takes : List Take). AreSixteenOf takes c.args.at c.with_whole-sums.result) (sym (map_more take_of c.args.parts.now c.loop-i.i no_part inside))
    (c.with_whole-sums.ensures (map take_of (take c.loop-i.i c.args.parts.now)) few c.loop-i.invariant)
