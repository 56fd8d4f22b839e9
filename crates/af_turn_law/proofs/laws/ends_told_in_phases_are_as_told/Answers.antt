use Rattle.af_turn_law.proofs.laws.ends_told_in_phases_are_as_told.Goals as goal
use Rattle.af_turn_law.proofs.SharedForced.{queue_forced, report_forced, pipe_forced}

pub returns : goal.returns
returns c = record { queue = queue_forced; report = report_forced; pipe = pipe_forced }
