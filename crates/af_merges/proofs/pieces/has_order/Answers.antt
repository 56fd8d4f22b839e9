use Rattle.std.proofs.Common.{◌↔◌, IsTrue, List, [], ◌∷◌, All, subst, sym}
use Rattle.af_merges.proofs.Common.{Contains, all_one}
use Rattle.af_merges.specs.declared.search.Stage.{Stage}
use Rattle.af_merges.specs.Walks.{IsReached}
use Rattle.af_merges.specs.MergePieces.{IsOpen}
use Rattle.af_merges.specs.Stages.{lists_of, begin, eager, IsWhole, InBounds}
use Rattle.af_merges.proofs.Extends.{IsFrontier-afresh, HasWalk-at_frontier, InBounds-first}
use Rattle.af_merges.proofs.pieces.has_order.Goals as goal

pub settle-requires-clause-bounds : goal.settle-requires-clause-bounds
settle-requires-clause-bounds c =
    let l = lists_of c.args.events.now in
    subst (λ (m : Stage). All (InBounds l) (m ∷ [])) (sym c.first_stage-begin.ensures) (all_one (InBounds l) (begin c.args.from.now) (InBounds-first l c.args.from.now c.requires.from))

pub returns : goal.returns
returns c =
    let l = lists_of c.args.events.now in
    let reached = subst (λ (m : Stage). IsReached (eager l) (IsOpen l) (m ∷ []) c.in_ok-found.found.items) c.first_stage-begin.ensures c.in_ok-found.ensures.reached in
    let frontier = IsFrontier-afresh l c.args.from.now c.in_ok-found.found.items reached in
    let order = HasWalk-at_frontier l c.args.from.now c.in_ok-found.found.items frontier in
    let whole = subst (λ (xs : List Stage). IsTrue c.has_whole.result ↔ ((m : Stage) × Contains xs m × IsWhole l m)) c.deref.ensures.value c.has_whole.ensures in
    ((λ yes. order.0 (whole.0 yes)), (λ some. whole.1 (order.1 some)))
