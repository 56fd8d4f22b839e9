use Rattle.std.proofs.Common.{take, All, ◌≤◌}
use Rattle.af_merges.specs.Stages.{count, total, lists_of}
use Rattle.af_merges.proofs.pieces.least_count.Given as goal

abbrev pub invariant-loop-stage : goal.invariant-loop-stage
invariant-loop-stage l = record {
  least : All (λ s. l.least ≤ count s) (take l.stage-index l.starts);
  short : l.least ≤ total (lists_of l.events);
}
