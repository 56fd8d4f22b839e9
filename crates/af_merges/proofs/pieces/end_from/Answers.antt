use Rattle.std.proofs.Common.{◌≡◌, IfSome, subst}
use Rattle.af_merges.specs.Stages.{Lists, InBounds, IsWhole}
use Rattle.af_merges.specs.MergeSearch.{lists_in}
use Rattle.af_merges.specs.OneOrder.{LeadsTo}
use Rattle.af_merges.proofs.OneOrder.{ends_on}
use Rattle.af_merges.proofs.pieces.end_from.Goals as goal

pub returns-clause-end : goal.returns-clause-end
returns-clause-end c =
    let l : Lists = record { client = c.deref.result.now; server = c.deref-2.result.now; hand = c.deref-3.result.now } in
    let same : l ≡ lists_in c.args.search.now = λ i. record { client = c.deref.ensures.value i; server = c.deref-2.ensures.value i; hand = c.deref-3.ensures.value i } in
    let end = c.end_of_one_order.result in
    let way = subst (λ (l : Lists). IfSome end (LeadsTo l c.args.stage.now)) same c.end_of_one_order.ensures.way in
    let bounds = subst (λ (l : Lists). IfSome end (InBounds l)) same c.end_of_one_order.ensures.bounds in
    ends_on (lists_in c.args.search.now) c.args.search.now.from c.args.stage.now end c.requires.stage way bounds

pub returns-clause-whole : goal.returns-clause-whole
returns-clause-whole c =
    let l : Lists = record { client = c.deref.result.now; server = c.deref-2.result.now; hand = c.deref-3.result.now } in
    let same : l ≡ lists_in c.args.search.now = λ i. record { client = c.deref.ensures.value i; server = c.deref-2.ensures.value i; hand = c.deref-3.ensures.value i } in
    subst (λ (l : Lists). IfSome c.end_of_one_order.result (IsWhole l)) same c.end_of_one_order.ensures.whole
