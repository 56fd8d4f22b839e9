use Rattle.std.proofs.Common.{ap, ◌∙◌, arith}
use Rattle.af_script.proofs.Common.{items_view}
use Rattle.af_script.specs.Ops.{are_whole}
use Rattle.af_script.proofs.OpForms.{closed-whole}
use Rattle.af_script.proofs.track.ops_in.Goals as goal

pub invariant_of-result : goal.invariant_of-result
invariant_of-result c =
    ap are_whole c.in_ok-close.ensures
    ∙ closed-whole c.args.track c.args.frames (items_view c.args.values.now) c.in_ok-ops.ops.items (omega arith) (omega arith) c.in_ok-ops.ensures
