use Rattle.std.proofs.Common.{◌≡◌, ◌+◌, ◌-◌, ◌%◌, ◌<◌, ℕ, sym, ap, ◌∙◌, arith, mod-eq_of_lt}
use Rattle.af_cblk.specs.Sides.{Made, server_made}
use Rattle.af_cblk.proofs.Calls.{cell_within, cell_by_server}
use Rattle.af_cblk.proofs.block.Block.load_word.Goals as goal

pub load-found-requires : goal.load-found-requires
load-found-requires g c =
    let same = ap server_made c.pass.view_is ∙ c.requires.made ∙ sym c.self.view_is in
    let b = c.self.invariant in
    let size : c.self.inside.shape.cells ≡ c.args.self.now.shape.cells = ap (λ (m : Made). m.shape.cells) c.self.view_is in
    let cell = c.requires.cell in
    let place : ℕ = c.args.index - 7 in
    let below : place < c.self.inside.shape.cells = (let a = cell.0 in let d = cell.1 in omega arith) in
    let index : c.args.index ≡ 7 + place % c.self.inside.shape.cells = (let e : place % c.self.inside.shape.cells ≡ place = mod-eq_of_lt below in let a = cell.0 in omega arith) in (
      ap (λ (m : Made). m.id) same,
      cell_within c.self.inside.shape b.2 place _ _ index b.1,
      cell_by_server _ _ b.0 _ _ _ c.pass.invariant.0 (ap (λ (m : Made). m.shape) same) b.2 place _ index,
    )
