use Rattle.std.proofs.Common.{◌+◌, ◌%◌, sym, ap, ◌∙◌}
use Rattle.af_cblk.specs.Sides.{Made, server_made}
use Rattle.af_cblk.proofs.Calls.{cell_within, cell_by_server}
use Rattle.af_cblk.proofs.block.Block.load_cell.Goals as goal

pub load-found-requires : goal.load-found-requires
load-found-requires g c =
    let same = ap server_made c.pass.view_is ∙ c.requires ∙ sym c.self.view_is in
    let b = c.self.invariant in
    let index = c.cell_of-index.ensures ∙ ap (λ (m : Made). 7 + c.args.position % m.shape.cells) (sym c.self.view_is) in (
      ap (λ (m : Made). m.id) same,
      cell_within c.self.inside.shape b.2 c.args.position _ _ index b.1,
      cell_by_server _ _ b.0 _ _ _ c.pass.invariant.0 (ap (λ (m : Made). m.shape) same) b.2 c.args.position _ index,
    )
