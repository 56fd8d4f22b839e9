-- the open counts are those with the looks so far
use Rattle.std.proofs.Common.{◌≡◌, take}
use Rattle.af_judge.specs.QueueNumbers.{AreOpenCounts, observed}
use Rattle.af_judge.proofs.queue_judge.walk.Given as goal

abbrev pub invariant-loop-step : goal.invariant-loop-step
invariant-loop-step l = record {
  point : l.point ≡ observed l.fn.observer (take l.step-index l.looks);
  counts : AreOpenCounts l.fn.mutator l.steps l.fn.observer (take l.step-index l.looks) l.counts;
}
