use Rattle.std.proofs.Common.{◌≡◌, ◌↔◌, subst, sym, IsTrue, All, length, rules}
use Rattle.af_merges.proofs.Common.{Contains, TrackPoint}
use Rattle.af_merges.specs.declared.search.Stage.{Stage}
use Rattle.af_merges.specs.Walks.{IsReached}
use Rattle.af_merges.specs.Stages.{Lists, eager, IsWhole, InBounds}
use Rattle.af_merges.specs.MergePieces.{IsOpen, IsFrontier}
use Rattle.af_merges.specs.MergeSearch.{SameLists, lists_in}
use Rattle.af_merges.specs.declared.pieces.Search.{Search}
use Rattle.af_merges.proofs.Extends.{IsFrontier-from_starts, All-InBounds-from_starts, HasWalk-at_frontier}
use Rattle.af_merges.proofs.OneOrder.{knows_all}
use Rattle.af_merges.proofs.pieces.search_on.Goals as goal

lists_are : (old new : Search) → SameLists old new → lists_in new ≡ lists_in old
lists_are old new same = λ i. record { client = (same.client i).items; server = (same.server i).items; hand = (same.hand i).items }

pub returns-clause-answer : goal.returns-clause-answer
returns-clause-answer c =
    let s = c.args.search.now in
    let are = lists_are s c.starts.new.search c.in_ok-begins.ensures.same in
    let found = c.in_ok-open.open.items in
    let reached = subst (λ (l : Lists). IsReached (eager l) (IsOpen l) c.in_ok-begins.begins.items found) are c.in_ok-open.ensures.reached in
    let frontier = IsFrontier-from_starts s c.in_ok-begins.begins.items found c.in_ok-begins.ensures.starts reached in
    let whole = subst (λ (l : Lists). IsTrue c.in_ok-open.whole ↔ ((m : Stage) × Contains found m × IsWhole l m)) are c.in_ok-open.ensures.whole in
    let order = HasWalk-at_frontier (lists_in s) s.from found frontier in
    ((λ yes. order.0 (whole.0 yes)), (λ some. whole.1 (order.1 some)))

pub returns-clause-knows : goal.returns-clause-knows
returns-clause-knows c =
    let s = c.args.search.now in
    let same = c.in_ok-begins.ensures.same in
    let are = lists_are s c.starts.new.search same in
    let found = c.in_ok-open.open.items in
    let reached = subst (λ (l : Lists). IsReached (eager l) (IsOpen l) c.in_ok-begins.begins.items found) are c.in_ok-open.ensures.reached in
    let frontier = IsFrontier-from_starts s c.in_ok-begins.begins.items found c.in_ok-begins.ensures.starts reached in
    let here = subst (λ (p : TrackPoint). IsFrontier (lists_in c.starts.new.search) p found) (sym same.from) (subst (λ (l : Lists). IsFrontier l s.from found) (sym are) frontier) in
    let now = c.starts.new.search in
    let clients : c.len-search.result ≡ length now.client.items = search rules in
    let servers : c.len-search-2.result ≡ length now.server.items = search rules in
    let hands : c.len-search-3.result ≡ length now.hand.items = search rules in
    knows_all _ clients servers hands here c.in_ok-open.ensures.bounds c.in_ok-open.ensures.end

pub found_from-requires-clause-bounds : goal.found_from-requires-clause-bounds
found_from-requires-clause-bounds c =
    let s = c.args.search.now in
    subst (λ (l : Lists). All (InBounds l) c.in_ok-begins.begins.items) (sym (lists_are s c.starts.new.search c.in_ok-begins.ensures.same))
    (All-InBounds-from_starts s c.in_ok-begins.begins.items c.in_ok-begins.ensures.starts c.requires.from)
