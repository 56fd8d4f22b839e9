use Rattle.std.proofs.Common.{ℕ, ◌<◌, get_or}
use Rattle.af_merges.specs.declared.search.Stage.{Stage}
use Rattle.af_merges.specs.Stages.{lists_of, IsWhole}
use Rattle.af_merges.proofs.search.has_whole.Given as goal

abbrev pub invariant-loop-stage : goal.invariant-loop-stage
invariant-loop-stage l = (k : ℕ) (d : Stage) → k < l.stage-index → IsWhole (lists_of l.events) (get_or l.now k d) → ⊥
