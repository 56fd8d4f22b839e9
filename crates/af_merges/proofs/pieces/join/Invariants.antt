use Rattle.std.proofs.Common.{take}
use Rattle.af_merges.specs.Walks.{Collects}
use Rattle.af_merges.specs.Stages.{HasCount}
use Rattle.af_merges.proofs.pieces.join.Given as goal

abbrev pub invariant-loop-stage : goal.invariant-loop-stage
invariant-loop-stage l = Collects (HasCount l.number) (take l.stage-index l.starts) l.initial.now.items l.now.items
