use Rattle.std.proofs.Common.{◌≡◌, length, map, ap, ◌∙◌, arith}
use Rattle.af_gain.proofs.Common.{mix, take_of}
use Rattle.af_gain.proofs.Takes.{mixed-sums}
use Rattle.af_gain.proofs.mixing.mix.Goals as goal

pub returns-else-parts-lt16 : goal.returns-else-parts-lt16
returns-else-parts-lt16 c =
    let same : length c.sum_up.new.sums ≡ length c.args.out.now = omega arith in
    c.finish_small.ensures ∙ mixed-sums (map take_of c.args.parts.now) c.sum_up.new.sums c.sum_up.ensures.sums ∙ ap (mix (map take_of c.args.parts.now)) same
