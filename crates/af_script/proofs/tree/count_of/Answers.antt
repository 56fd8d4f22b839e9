use Rattle.std.proofs.Common.{sym}
use Rattle.af_script.proofs.Trees.{count_of-values}
use Rattle.af_script.proofs.tree.count_of.Goals as goal

pub returns-clause-items : goal.returns-clause-items
returns-clause-items c = sym (count_of-values c.args.values.now)
