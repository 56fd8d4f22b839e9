use Rattle.std.proofs.Common.{◌≡◌, drop}
use Rattle.af_enough.specs.Enough.{way_goes_on}
use Rattle.af_enough.proofs.enough.goes_on.Given as goal

-- the ops that are left go on as all of them do
abbrev pub invariant-loop-index : goal.invariant-loop-index
invariant-loop-index l = way_goes_on l.gains (drop l.index l.ops) ≡ way_goes_on 0 l.ops
