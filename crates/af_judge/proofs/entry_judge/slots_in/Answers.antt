use Rattle.af_judge.proofs.SlotsIn.{none_here}
use Rattle.af_judge.proofs.entry_judge.slots_in.Goals as goal

pub returns-clause-rest : goal.returns-clause-rest
returns-clause-rest c = λ i le. none_here c.args.state.now i (c.bits_in.ensures.rest i le)
