use Rattle.std.proofs.Common.{arith, ◌+◌, ◌≤◌, List, [], All, subst, sym}
use Rattle.af_merges.specs.declared.search.Stage.{Stage}
use Rattle.af_merges.specs.Walks.{Collects, IsNext, IsFoundBelow}
use Rattle.af_merges.specs.Stages.{lists_of, eager, InBounds, HasCount, count, total}
use Rattle.af_merges.specs.MergePieces.{IsOpen}
use Rattle.af_merges.proofs.Levels.{level-first, level-more, level-same, All-same, found-none, found-more, found-all, All-collected}
use Rattle.af_merges.proofs.StageCounts.{count-eager, count-short}
use Rattle.af_merges.proofs.pieces.settle.Goals as goal

pub loop-level-init : goal.loop-level-init
loop-level-init c =
    let l = lists_of c.args.events.now in
    let starts = c.args.starts.now in
    let collects : Collects (HasCount c.least_count-first.result) starts [] c.join.new.now.items =
    subst (λ (xs : List Stage). Collects (HasCount c.least_count-first.result) starts xs c.join.new.now.items) c.new-now.ensures.items c.in_ok-join.ensures in
    let none : All (InBounds l) [] = λ k d h. absurd (omega arith) in
    record {
      level = level-first (eager l) count starts c.join.new.now.items c.least_count-first.result (count-eager l) c.least_count-first.ensures.least collects;
      found = subst (λ (xs : List Stage). IsFoundBelow (eager l) count (IsOpen l) starts c.least_count-first.result xs) (sym c.new-found.ensures.items)
          (found-none (eager l) count (IsOpen l) starts c.least_count-first.result (count-eager l) c.least_count-first.ensures.least);
      bounds = All-collected (InBounds l) (HasCount c.least_count-first.result) starts [] c.join.new.now.items collects c.requires.bounds none;
      found_bounds = subst (λ (xs : List Stage). All (InBounds l) xs) (sym c.new-found.ensures.items) none;
    }

pub loop-level-preserved : goal.loop-level-preserved
loop-level-preserved c =
    let l = lists_of c.args.events.now in
    let starts = c.args.starts.now in
    let n = c.loop-level.level in
    let next = subst (λ (xs : List Stage). IsNext (eager l) xs c.in_ok-now.now.items) c.deref-in-loop-level.ensures.value c.in_ok-now.ensures.next in
    let collects = subst (λ (xs : List Stage). Collects (IsOpen l) xs c.loop-level.found.items c.collect.new.found.items) c.deref.ensures.value c.in_ok-collect.ensures in
    record {
      level = level-same (eager l) count starts c.join-in-loop-level.new.now.items _ (n + 1)
          (level-more (eager l) count starts c.loop-level.now.items c.in_ok-now.now.items c.join-in-loop-level.new.now.items n (count-eager l) c.loop-level.invariant.level next c.in_ok-join-2.ensures)
          c.leave_one_of_each.ensures;
      found = found-more (eager l) count (IsOpen l) starts c.loop-level.now.items c.loop-level.found.items c.collect.new.found.items n c.loop-level.invariant.level c.loop-level.invariant.found collects;
      bounds = All-same (InBounds l) c.join-in-loop-level.new.now.items _ c.leave_one_of_each.ensures
          (All-collected (InBounds l) (HasCount (n + 1)) starts c.in_ok-now.now.items c.join-in-loop-level.new.now.items c.in_ok-join-2.ensures c.requires.bounds c.in_ok-now.ensures.bounds);
      found_bounds = All-collected (InBounds l) (IsOpen l) c.loop-level.now.items c.loop-level.found.items c.collect.new.found.items collects c.loop-level.invariant.bounds c.loop-level.invariant.found_bounds;
    }

pub returns-clause-reached : goal.returns-clause-reached
returns-clause-reached c =
    let l = lists_of c.args.events.now in
    let long : total l + 1 ≤ c.loop-level.level = omega arith in
    found-all (eager l) count (IsOpen l) c.args.starts.now c.loop-level.found.items c.loop-level.level
    (λ s ws m i e. omega (arith, count-short l c.args.starts.now c.requires.bounds s ws m i e, long))
    c.loop-level.invariant.found
