use Rattle.std.proofs.Common.{length, take, arith, ◌≡◌, subst, refl, List, ap, ◌∙◌}
use Rattle.af_merges.proofs.Common.{take-length}
use Rattle.af_merges.specs.declared.search.Stage.{Stage}
use Rattle.af_merges.specs.Walks.{IsNext}
use Rattle.af_merges.specs.Stages.{eager, lists_of}
use Rattle.af_merges.proofs.Levels.{next-more}
use Rattle.af_merges.proofs.search.advance.Goals as goal

pub loop-stage-preserved : goal.loop-stage-preserved
loop-stage-preserved c = record {
  next = next-more (eager (lists_of c.args.events.now)) c.args.now.now _ _ c.loop-stage.stage-index _ _ (omega arith) refl c.loop-stage.invariant.next c.in_ok-spread.ensures.spreads;
  bounds = c.in_ok-spread.ensures.bounds c.loop-stage.invariant.bounds;
}

pub returns-clause-next : goal.returns-clause-next
returns-clause-next c =
    let whole : take c.loop-stage.stage-index c.args.now.now ≡ c.args.now.now =
    let end : c.loop-stage.stage-index ≡ length c.args.now.now = omega arith in ap (λ k. take k c.args.now.now) end ∙ take-length c.args.now.now in
    subst (λ (xs : List Stage). IsNext (eager (lists_of c.args.events.now)) xs c.loop-stage.next.items) whole c.loop-stage.invariant.next
