use Rattle.std.proofs.Common.{take, All}
use Rattle.af_merges.specs.Walks.{IsNext}
use Rattle.af_merges.specs.Stages.{eager, lists_of, InBounds}
use Rattle.af_merges.proofs.search.advance.Given as goal

abbrev pub invariant-loop-stage : goal.invariant-loop-stage
invariant-loop-stage l = record {
  next : IsNext (eager (lists_of l.events)) (take l.stage-index l.now) l.next.items;
  bounds : All (InBounds (lists_of l.events)) l.next.items;
}
