use Rattle.std.proofs.Common.{take}
use Rattle.af_merges.specs.Walks.{Collects}
use Rattle.af_merges.specs.Stages.{lists_of}
use Rattle.af_merges.specs.MergePieces.{IsOpen}
use Rattle.af_merges.proofs.pieces.collect.Given as goal

abbrev pub invariant-loop-stage : goal.invariant-loop-stage
invariant-loop-stage l = Collects (IsOpen (lists_of l.events)) (take l.stage-index l.now) l.initial.found.items l.found.items
