use Rattle.std.proofs.Common.{rules}
use Rattle.af_merges.specs.MergeSearch.{lists_in}
use Rattle.af_merges.proofs.OneOrder.{old_end}
use Rattle.af_merges.proofs.pieces.end_of_old.Goals as goal

pub returns-then-names_each-clause-end : goal.returns-then-names_each-clause-end
returns-then-names_each-clause-end c =
    let s = c.args.search.now in
    old_end (lists_in s) s.from c.args.hand.now s.end (search rules) c.requires.end
