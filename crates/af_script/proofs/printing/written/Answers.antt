use Rattle.std.proofs.Common.{rules}
use Rattle.af_script.proofs.Common.{take_min}
use Rattle.af_script.proofs.printing.written.Goals as goal

pub returns : goal.returns
returns c = search (rules, take_min)
