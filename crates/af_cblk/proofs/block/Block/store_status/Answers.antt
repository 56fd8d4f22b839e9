use Rattle.std.proofs.Common.{rules, sym, ap, ◌∙◌}
use Rattle.af_cblk.specs.Sides.{Made, server_made}
use Rattle.af_cblk.proofs.Calls.{status_by_server}
use Rattle.af_cblk.proofs.block.Block.store_status.Goals as goal

pub store-requires : goal.store-requires
store-requires g c =
    let same = ap server_made c.pass.view_is ∙ c.requires ∙ sym c.self.view_is in
    (ap (λ (m : Made). m.id) same, search rules, status_by_server _ _ c.self.invariant.0 _ _ _ c.pass.invariant.0 (ap (λ (m : Made). m.shape) same) c.args.word (search rules))
