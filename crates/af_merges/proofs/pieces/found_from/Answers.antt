use Rattle.std.proofs.Common.{◌≡◌, List, subst}
use Rattle.af_merges.specs.declared.search.Stage.{Stage}
use Rattle.af_merges.specs.Walks.{IsReached}
use Rattle.af_merges.specs.Stages.{Lists, eager}
use Rattle.af_merges.specs.MergePieces.{IsOpen}
use Rattle.af_merges.specs.MergeSearch.{lists_in}
use Rattle.af_merges.proofs.pieces.found_from.Goals as goal

pub returns-clause-reached : goal.returns-clause-reached
returns-clause-reached c =
    let l : Lists = record { client = c.deref.result.now; server = c.deref-2.result.now; hand = c.deref-3.result.now } in
    let same : l ≡ lists_in c.args.search.now = λ i. record { client = c.deref.ensures.value i; server = c.deref-2.ensures.value i; hand = c.deref-3.ensures.value i } in
    let reached = subst (λ (xs : List Stage). IsReached (eager l) (IsOpen l) xs c.in_ok-open.open.items) c.deref-5.ensures.value c.in_ok-open.ensures.reached in
    subst (λ (l : Lists). IsReached (eager l) (IsOpen l) c.args.starts.items c.in_ok-open.open.items) same reached
