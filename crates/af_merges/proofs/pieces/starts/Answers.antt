use Rattle.std.proofs.Common.{◌≡◌, true, drop, subst, sym, rules, List}
use Rattle.af_merges.specs.declared.search.Stage.{Stage}
use Rattle.af_merges.specs.MergePieces.{names_at_least}
use Rattle.af_merges.specs.MergeSearch.{MayStart, GoesOn}
use Rattle.af_merges.proofs.pieces.starts.Goals as goal

pub returns-then-names_each-clause-starts : goal.returns-then-names_each-clause-starts
returns-then-names_each-clause-starts c =
    let s = c.args.search.now in
    let names : names_at_least s.clients (drop s.hands s.hand.items) ≡ true = search rules in
    let same : c.replace.result.items ≡ s.open.items = search rules in
    subst (λ (xs : List Stage). MayStart s xs) (sym same)
    (GoesOn (c.requires.knows.there c.if-search.true) names (c.requires.knows.frontier c.if-search.true) (c.requires.knows.bounds c.if-search.true))
