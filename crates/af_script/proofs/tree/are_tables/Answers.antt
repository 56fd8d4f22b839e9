use Rattle.std.proofs.Common.{◌∙◌}
use Rattle.af_script.proofs.Common.{as_table}
use Rattle.af_script.proofs.Trees.{all_are-values}
use Rattle.af_script.proofs.tree.are_tables.Goals as goal

pub returns : goal.returns
returns c = c.are_tables_each.ensures ∙ all_are-values as_table c.args.values.now
