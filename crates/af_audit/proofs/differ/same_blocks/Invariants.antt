-- the lists are the same so far
use Rattle.std.proofs.Common.{◌≡◌, ◌-◌, ◌≤◌, take}
use Rattle.af_audit.proofs.differ.same_blocks.Given as goal

abbrev pub invariant-blocks-2 : goal.invariant-blocks-2
invariant-blocks-2 l = record {
  inside : l.at ≤ l.shorter;
  same : take l.at l.a ≡ take l.at l.b;
}

abbrev pub decreases-blocks-2 : goal.decreases-blocks-2
decreases-blocks-2 l = l.shorter - l.at
