use Rattle.std.proofs.Common.{sym, ap, ◌∙◌}
use Rattle.af_cblk.proofs.Common.{wrapped}
use Rattle.af_cblk.specs.Parts.{released}
use Rattle.af_cblk.specs.Sides.{Made, ClientSide}
use Rattle.af_cblk.proofs.Flushes.{step_is}
use Rattle.af_cblk.proofs.Sized.{wrapped_by}
use Rattle.af_cblk.proofs.block.Block.flush_step.Goals as goal

pub returns : goal.returns
returns c =
    let k = c.self.inside.shape in
    step_is k (wrapped_by k c.self.invariant.2) c.if-wrap-eq0.false c.args.pass.now.part (ap (λ (m : Made). m.shape) (c.requires ∙ sym c.self.view_is)) c.pass.inside.rear c.pass.inside.flushed
    (c.pass.invariant.2 ∙ ap (λ (z : ClientSide). wrapped (released z.part)) c.pass.view_is)
    (c.pass.invariant.4 ∙ ap (λ (z : ClientSide). wrapped z.part.flush_at) c.pass.view_is)
