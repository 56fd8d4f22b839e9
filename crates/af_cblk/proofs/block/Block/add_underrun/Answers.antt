use Rattle.std.proofs.Common.{rules, sym, ap, ◌∙◌}
use Rattle.af_cblk.specs.Sides.{Made, server_made}
use Rattle.af_cblk.proofs.Calls.{tally_by_server}
use Rattle.af_cblk.proofs.block.Block.add_underrun.Goals as goal

pub fetch_add-requires : goal.fetch_add-requires
fetch_add-requires g c =
    let same = ap server_made c.pass.view_is ∙ c.requires ∙ sym c.self.view_is in
    (ap (λ (m : Made). m.id) same, search rules, tally_by_server _ _ c.self.invariant.0 _ _ _ c.pass.invariant.0 (ap (λ (m : Made). m.shape) same) c.args.missing)
