use Rattle.std.proofs.Common.{◌≡◌, ◌*◌, ◌≤◌, ◌^◌, take}
use Rattle.std.specs.List.{sum_by}
use Rattle.af_enough.specs.Enough.{op_cost}
use Rattle.af_enough.proofs.enough.ops_cost.Given as goal

abbrev pub invariant-loop-op : goal.invariant-loop-op
invariant-loop-op l = record {
  cost : l.cost ≡ sum_by (op_cost l.portion) (take l.op-index l.ops);
  small : l.cost ≤ l.op-index * 2 ^ 36;
}
