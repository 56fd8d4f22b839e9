use Rattle.std.proofs.Common.{rules, sym, ap, ◌∙◌}
use Rattle.af_cblk.specs.Sides.{Made, server_made}
use Rattle.af_cblk.proofs.Calls.{front_by_server}
use Rattle.af_cblk.proofs.block.Block.server_front.Goals as goal

pub load-found-requires : goal.load-found-requires
load-found-requires g c =
    let same = ap server_made c.pass.view_is ∙ c.requires ∙ sym c.self.view_is in
    (ap (λ (m : Made). m.id) same, search rules, front_by_server _ _ c.self.invariant.0 _ _ _ c.pass.invariant.0 (ap (λ (m : Made). m.shape) same))
