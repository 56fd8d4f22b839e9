use Rattle.std.proofs.Common.{map, arith}
use Rattle.std.proofs.lemmas.Grind.{common_steps}
use Rattle.std.proofs.lemmas.List.FromFn.{map-range_with_len_more}
use Rattle.af_base.specs.Mix.{mixed_frame}
use Rattle.af_base.specs.Part.{take_of}
use Rattle.af_base.proofs.plain.plain_mix.Goals as goal

pub loop-at-preserved : goal.loop-at-preserved
loop-at-preserved c =
    let at = c.loop-at.at in
    grind (arith, common_steps, map-range_with_len_more (mixed_frame (map take_of c.args.parts.now)) 0 at at (omega arith))
