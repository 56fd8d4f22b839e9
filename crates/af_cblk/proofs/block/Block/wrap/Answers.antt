use Rattle.std.proofs.Common.{◌≤◌, subst}
use Rattle.af_cblk.specs.Shape.{most_flushes}
use Rattle.af_cblk.specs.Sides.{Made}
use Rattle.af_cblk.proofs.Flushes.{most-many}
use Rattle.af_cblk.proofs.Sized.{wrapped_by}
use Rattle.af_cblk.proofs.block.Block.wrap.Goals as goal

pub returns-clause-room : goal.returns-clause-room
returns-clause-room c = subst (λ (m : Made). 65535 ≤ most_flushes m.shape.wrap) c.self.view_is (most-many c.self.inside.shape (wrapped_by c.self.inside.shape c.self.invariant.2))
