use Rattle.std.proofs.Common.{subst, Option}
use Rattle.af_merges.specs.Walks.{Adds}
use Rattle.af_merges.specs.Stages.{eager, lists_of, InBounds}
use Rattle.af_merges.specs.declared.search.Stage.{Stage}
use Rattle.af_merges.proofs.Levels.{All-from_adds}
use Rattle.af_merges.proofs.StageCounts.{Spreads-from_three}
use Rattle.af_merges.proofs.search.spread.Goals as goal

pub returns-clause-spreads : goal.returns-clause-spreads
returns-clause-spreads c =
    Spreads-from_three (eager (lists_of c.args.events.now)) c.args.stage.now _ _ _ _
    (subst (λ (f : Option Stage). Adds c.args.found.now.items f c.add.new.found.items) c.eager_client.ensures.value c.in_ok-add.ensures)
    (subst (λ (f : Option Stage). Adds c.add.new.found.items f c.add-2.new.found.items) c.eager_server.ensures.value c.in_ok-add-2.ensures)
    (subst (λ (f : Option Stage). Adds c.add-2.new.found.items f c.add-3.new.found.items) c.eager_hand.ensures.value c.in_ok-add-3.ensures)

pub returns-clause-bounds : goal.returns-clause-bounds
returns-clause-bounds c = λ all.
    let P : Stage → Type 0 = InBounds (lists_of c.args.events.now) in
    All-from_adds P _ _ _ c.in_ok-add-3.ensures c.eager_hand.ensures.bounds
    (All-from_adds P _ _ _ c.in_ok-add-2.ensures c.eager_server.ensures.bounds
    (All-from_adds P _ _ _ c.in_ok-add.ensures c.eager_client.ensures.bounds all))
