use Rattle.std.proofs.Common.{arith, refl, length, take, ap, ◌∙◌, ◌≡◌, List, subst, Option}
use Rattle.af_merges.proofs.Common.{take-length}
use Rattle.af_merges.specs.declared.search.Stage.{Stage}
use Rattle.af_merges.specs.Walks.{Collects, Adds}
use Rattle.af_merges.specs.Stages.{lists_of}
use Rattle.af_merges.specs.MergePieces.{is_open, IsOpen}
use Rattle.af_merges.proofs.Levels.{collects-more}
use Rattle.af_merges.proofs.pieces.collect.Goals as goal

pub loop-stage-preserved : goal.loop-stage-preserved
loop-stage-preserved c =
    let added = subst (λ (f : Option Stage). Adds c.loop-stage.found.items f c.add.new.found.items) c.if_open.ensures c.in_ok-add.ensures in
    collects-more (is_open (lists_of c.args.events.now)) c.args.now.now _ _ _ c.loop-stage.stage-index _ _ (omega arith) refl c.loop-stage.invariant added

pub returns : goal.returns
returns c =
    let whole : take c.loop-stage.stage-index c.args.now.now ≡ c.args.now.now =
    let end : c.loop-stage.stage-index ≡ length c.args.now.now = omega arith in ap (λ k. take k c.args.now.now) end ∙ take-length c.args.now.now in
    subst (λ (xs : List Stage). Collects (IsOpen (lists_of c.args.events.now)) xs c.args.found.now.items c.loop-stage.found.items) whole c.loop-stage.invariant
