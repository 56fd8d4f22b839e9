use Rattle.std.proofs.Common.{◌∙◌, ◌↔◌, Some, IfOk, IsTrue, subst, sym, rules}
use Rattle.af_merges.proofs.Common.{TrackPoint}
use Rattle.af_merges.specs.Stages.{Lists, HasWalk, AreShortLists}
use Rattle.af_merges.specs.MergePieces.{joined}
use Rattle.af_merges.specs.MergeSearch.{lists_in}
use Rattle.af_merges.proofs.OneOrder.{after_pieces, knows_more, same_but_end, at_no_end, walk_by_one}
use Rattle.af_merges.proofs.pieces.go_on.Goals as goal

pub end_if-requires-clause-stage : goal.end_if-requires-clause-stage
end_if-requires-clause-stage c =
    let s = c.args.search.now in
    let more = after_pieces s c.end_of_old-old.new.search c.append.new.search c.args.client.now c.args.server.now c.args.hand.now c.end_of_old-old.ensures.same c.end_of_old-old.ensures.searched c.in_ok-append.ensures.lists c.in_ok-append.ensures.searched in
    more.end c.end_of_old-old.result c.end_of_old-old.ensures.end

pub end_if-requires-clause-short : goal.end_if-requires-clause-short
end_if-requires-clause-short c =
    let s = c.args.search.now in
    let more = after_pieces s c.end_of_old-old.new.search c.append.new.search c.args.client.now c.args.server.now c.args.hand.now c.end_of_old-old.ensures.same c.end_of_old-old.ensures.searched c.in_ok-append.ensures.lists c.in_ok-append.ensures.searched in
    subst AreShortLists (sym more.lists) c.requires.short

pub returns-in-Some-clause-answer : goal.returns-in-Some-clause-answer
returns-in-Some-clause-answer c =
    let s = c.args.search.now in
    let more = after_pieces s c.end_of_old-old.new.search c.append.new.search c.args.client.now c.args.server.now c.args.hand.now c.end_of_old-old.ensures.same c.end_of_old-old.ensures.searched c.in_ok-append.ensures.lists c.in_ok-append.ensures.searched in
    let walk = walk_by_one (lists_in c.append.new.search) c.append.new.search.from c.in-Some.end c.in-Some.ensures.end c.in-Some.ensures.whole in
    let there = subst (λ (l : Lists). HasWalk l s.from) more.lists (subst (λ (p : TrackPoint). HasWalk (lists_in c.append.new.search) p) more.searched.from walk) in
    ((λ _. there), (λ _. search rules))

pub returns-in-Some-clause-knows : goal.returns-in-Some-clause-knows
returns-in-Some-clause-knows c =
    let s = c.args.search.now in
    let more = after_pieces s c.end_of_old-old.new.search c.append.new.search c.args.client.now c.args.server.now c.args.hand.now c.end_of_old-old.ensures.same c.end_of_old-old.ensures.searched c.in_ok-append.ensures.lists c.in_ok-append.ensures.searched in
    knows_more s (record c.append.new.search { end = Some c.in-Some.end }) c.args.client.now c.args.server.now c.args.hand.now more.lists
    (same_but_end s c.append.new.search (Some c.in-Some.end) more.searched) c.in-Some.ensures.end c.requires.knows

pub search_on-requires-clause-knows : goal.search_on-requires-clause-knows
search_on-requires-clause-knows c =
    let s = c.args.search.now in
    let more = after_pieces s c.end_of_old-old.new.search c.append.new.search c.args.client.now c.args.server.now c.args.hand.now c.end_of_old-old.ensures.same c.end_of_old-old.ensures.searched c.in_ok-append.ensures.lists c.in_ok-append.ensures.searched in
    knows_more s c.append.new.search c.args.client.now c.args.server.now c.args.hand.now more.lists more.searched
    (at_no_end (lists_in c.append.new.search) c.append.new.search.from c.append.new.search.end (c.in_ok-append.ensures.end ∙ c.end_of_old-old.ensures.none)) c.requires.knows

pub returns-clause-answer : goal.returns-clause-answer
returns-clause-answer c =
    let s = c.args.search.now in
    let more = after_pieces s c.end_of_old-old.new.search c.append.new.search c.args.client.now c.args.server.now c.args.hand.now c.end_of_old-old.ensures.same c.end_of_old-old.ensures.searched c.in_ok-append.ensures.lists c.in_ok-append.ensures.searched in
    subst (λ (p : TrackPoint). IfOk c.search_on.result (λ yes. IsTrue yes ↔ HasWalk (joined (lists_in s) c.args.client.now c.args.server.now c.args.hand.now) p)) more.searched.from
    (subst (λ (l : Lists). IfOk c.search_on.result (λ yes. IsTrue yes ↔ HasWalk l c.append.new.search.from)) more.lists c.search_on.ensures.answer)
