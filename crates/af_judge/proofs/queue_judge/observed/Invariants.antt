use Rattle.std.proofs.Common.{◌≡◌, take}
use Rattle.af_judge.specs.QueueNumbers.{observed}
use Rattle.af_judge.proofs.queue_judge.observed.Given as goal

abbrev pub invariant-loop-step : goal.invariant-loop-step
invariant-loop-step l = l.point ≡ observed l.fn.from (take l.step-index l.steps)
