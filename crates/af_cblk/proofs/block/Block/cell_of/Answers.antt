use Rattle.std.proofs.Common.{◌+◌, ◌%◌, ap, ◌∙◌}
use Rattle.af_cblk.specs.Sides.{Made}
use Rattle.af_cblk.proofs.Sized.{mask_is}
use Rattle.af_cblk.proofs.block.Block.cell_of.Goals as goal

pub returns : goal.returns
returns c = ap (λ z. 7 + z) (mask_is _ c.self.invariant.2 c.args.position) ∙ ap (λ (m : Made). 7 + c.args.position % m.shape.cells) c.self.view_is
