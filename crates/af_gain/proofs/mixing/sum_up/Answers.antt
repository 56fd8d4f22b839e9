use Rattle.std.proofs.Common.{◌≡◌, ◌+◌, ◌<◌, ◌++◌, [], ◌∷◌, ℕ, get_or, length, take, map, sym, ap, subst, ◌∙◌, arith}
use Rattle.af_gain.proofs.Common.{gains_used, map_push, no_part, take_more, take_of}
use Rattle.af_gain.specs.Sums.{AreSumsOf, IsAccumulated}
use Rattle.af_gain.proofs.Takes.{AreSumsOf-more}
use Rattle.af_gain.proofs.mixing.sum_up.Goals as goal

pub loop-part-preserved : goal.loop-part-preserved
loop-part-preserved c =
    let i = c.loop-part.part-index in
    let part = get_or c.args.parts.now i no_part in
    let so_far = map take_of (take i c.args.parts.now) in
    let inside : i < length c.args.parts.now = omega arith in
    let grown : IsAccumulated part.frames.now part.mono (gains_used part.gains part.scale) c.loop-part.sums c.add_part.new.sums =
    subst (λ (gains : ℕ × ℕ). IsAccumulated part.frames.now part.mono gains c.loop-part.sums c.add_part.new.sums) c.gains_of.ensures c.add_part.ensures.sums in
    let more : AreSumsOf (so_far ++ take_of part ∷ []) c.add_part.new.sums =
    AreSumsOf-more so_far (take_of part) c.loop-part.sums c.add_part.new.sums (omega arith) c.loop-part.invariant.sums grown in
    let takes : so_far ++ take_of part ∷ [] ≡ map take_of (take (i + 1) c.args.parts.now) =
    sym (ap (map take_of) (take_more c.args.parts.now i no_part inside) ∙ map_push take_of (take i c.args.parts.now) part) in
    record {
      sums = subst (λ ts. AreSumsOf ts c.add_part.new.sums) takes more;
      bound = c.add_part.ensures.bound i c.loop-part.invariant.bound;
    }
