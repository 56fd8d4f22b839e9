use Rattle.af_script.proofs.Cells.{cells_of-next, next-bound}
use Rattle.af_judge.proofs.track_judge.cells_of.Goals as goal

pub returns-clause-cells : goal.returns-clause-cells
returns-clause-cells c =
    let next = c.next_power_of_two in
    cells_of-next c.args.frames next.result next.ensures.power next.ensures.lower_bound next.ensures.upper_bound c.requires

pub returns-clause-bound : goal.returns-clause-bound
returns-clause-bound c =
    let next = c.next_power_of_two in
    next-bound c.args.frames next.result next.ensures.power next.ensures.upper_bound c.requires
