use Rattle.std.proofs.Common.{inl, inr, arith}
use Rattle.af_judge.proofs.StatesAt.{state_inside, state_outside}
use Rattle.af_judge.proofs.slot_report.state_of.Goals as goal
use Rattle.af_judge.proofs.slot_report.state_of.Goals.{then-number-eq0-via-then-number-eq0, then-number-eq0-via-else-number-eq0+then-number-states}

pub returns-then-number-eq0 : goal.returns-then-number-eq0
returns-then-number-eq0 c =
    state_outside c.args.states.now c.args.number (elim c.then-number-eq0.branch [
      | then-number-eq0-via-then-number-eq0 w ↦ inl (omega arith)
      | then-number-eq0-via-else-number-eq0+then-number-states w ↦ inr (omega arith)
    ])

pub returns : goal.returns
returns c = state_inside c.args.states.now c.args.number _ (omega arith) (omega arith)
