use Rattle.af_script.proofs.Fronts.{after-stripped}
use Rattle.af_script.proofs.text.after.Goals as goal

pub returns : goal.returns
returns c = after-stripped c.args.word.now c.args.text.now c.strip_prefix.result c.strip_prefix.ensures.cases
