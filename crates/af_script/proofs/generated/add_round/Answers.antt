use Rattle.std.proofs.Common.{◌≡◌, List, [], ◌∷◌, ◌++◌, map, ap, sym, ◌∙◌, append_assoc, rules}
use Rattle.af_script.proofs.Common.{range_with_len}
use Rattle.af_script.specs.declared.op.TurnSpec.{TurnSpec}
use Rattle.af_script.specs.declared.op.TurnSpec.TheVariants.{Client}
use Rattle.af_script.proofs.GeneratedScript.{mapped_next}
use Rattle.af_script.proofs.generated.add_round.Goals as goal

pub loop-track-preserved : goal.loop-track-preserved
loop-track-preserved c = let old : List TurnSpec = c.args.turns.now.items in let i = c.loop-track.track in
    let added : c.push.new.self.items ≡ c.loop-track.turns.items ++ Client i ∷ [] = search rules in
    added
    ∙ ap (λ (turns : List TurnSpec). turns ++ Client i ∷ []) c.loop-track.invariant
    ∙ append_assoc old (map Client (range_with_len 0 i)) (Client i ∷ [])
    ∙ ap (λ (turns : List TurnSpec). old ++ turns) (sym (mapped_next Client i))
