use Rattle.std.proofs.Common.{◌≡◌, take}
use Rattle.af_judge.specs.QueueNumbers.{mutated}
use Rattle.af_judge.proofs.queue_judge.mutated.Given as goal

abbrev pub invariant-loop-step : goal.invariant-loop-step
invariant-loop-step l = l.point ≡ mutated l.fn.from (take l.step-index l.steps)
