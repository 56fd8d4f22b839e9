use Rattle.std.proofs.Common.{arith, refl, length, take, ap, ◌∙◌, ◌≡◌, ◌==◌, List, subst, Option}
use Rattle.af_merges.proofs.Common.{take-length}
use Rattle.af_merges.specs.declared.search.Stage.{Stage}
use Rattle.af_merges.specs.Walks.{Collects, Adds}
use Rattle.af_merges.specs.Stages.{HasCount, count}
use Rattle.af_merges.proofs.Levels.{collects-more}
use Rattle.af_merges.proofs.pieces.join.Goals as goal

pub loop-stage-preserved : goal.loop-stage-preserved
loop-stage-preserved c =
    let added = subst (λ (f : Option Stage). Adds c.loop-stage.now.items f c.add.new.found.items) c.if_counts.ensures c.in_ok-add.ensures in
    collects-more (λ m. count m == c.args.number) c.args.starts.now _ _ _ c.loop-stage.stage-index _ _ (omega arith) refl c.loop-stage.invariant added

pub returns : goal.returns
returns c =
    let whole : take c.loop-stage.stage-index c.args.starts.now ≡ c.args.starts.now =
    let end : c.loop-stage.stage-index ≡ length c.args.starts.now = omega arith in ap (λ k. take k c.args.starts.now) end ∙ take-length c.args.starts.now in
    subst (λ (xs : List Stage). Collects (HasCount c.args.number) xs c.args.now.now.items c.loop-stage.now.items) whole c.loop-stage.invariant
