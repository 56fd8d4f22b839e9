use Rattle.std.proofs.Common.{◌∙◌}
use Rattle.af_script.proofs.Common.{as_str}
use Rattle.af_script.proofs.Trees.{all_are-values}
use Rattle.af_script.proofs.tree.are_texts.Goals as goal

pub returns : goal.returns
returns c = c.are_texts_each.ensures ∙ all_are-values as_str c.args.values.now
