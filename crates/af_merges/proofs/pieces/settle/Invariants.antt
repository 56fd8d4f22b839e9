use Rattle.std.proofs.Common.{All}
use Rattle.af_merges.specs.Walks.{IsLevel, IsFoundBelow}
use Rattle.af_merges.specs.Stages.{eager, lists_of, InBounds, count}
use Rattle.af_merges.specs.MergePieces.{IsOpen}
use Rattle.af_merges.proofs.pieces.settle.Given as goal

abbrev pub invariant-loop-level : goal.invariant-loop-level
invariant-loop-level l = record {
  level : IsLevel (eager (lists_of l.events)) count l.starts l.level l.now.items;
  found : IsFoundBelow (eager (lists_of l.events)) count (IsOpen (lists_of l.events)) l.starts l.level l.found.items;
  bounds : All (InBounds (lists_of l.events)) l.now.items;
  found_bounds : All (InBounds (lists_of l.events)) l.found.items;
}
