use Rattle.std.proofs.Common.{rules, ◌+◌, ◌%◌, ◌<◌, sym, ap, ◌∙◌, subst}
use Rattle.af_cblk.specs.declared.view.ClientPart.{ClientPart}
use Rattle.af_cblk.specs.Parts.{ahead, released, room, stored_at}
use Rattle.af_cblk.specs.Sides.{Made, client_made}
use Rattle.af_cblk.proofs.Calls.{cell_within, cell_by_client, cell_is}
use Rattle.af_cblk.proofs.Passes.{pass_on}
use Rattle.af_cblk.proofs.block.Block.store_cell.Goals as goal

pub store-requires : goal.store-requires
store-requires g c =
    let same = ap client_made c.pass.view_is ∙ c.requires.made ∙ sym c.self.view_is in
    let part = ap (λ z. z.part) c.pass.view_is in
    let b = c.self.invariant in
    let index = c.cell_of-index.ensures ∙ ap (λ (m : Made). 7 + c.args.position % m.shape.cells) (sym c.self.view_is) in (
      ap (λ (m : Made). m.id) same,
      cell_within c.self.inside.shape b.2 c.args.position _ _ index b.1,
      cell_by_client _ _ b.0 _ _ _ c.pass.invariant.0 (ap (λ (m : Made). m.shape) same) b.2 c.args.position c.args.word _ index (search rules) (search rules)
          (subst (λ (p : ClientPart). ahead (released p) c.args.position < room p) (sym part) c.requires.room),
    )

pub returns-clause-stored : goal.returns-clause-stored
returns-clause-stored g c =
    let same = ap client_made c.pass.view_is ∙ c.requires.made ∙ sym c.self.view_is in
    let part = ap (λ z. z.part) c.pass.view_is in
    let at = c.args.position in
    let index = c.cell_of-index.ensures ∙ ap (λ (m : Made). 7 + at % m.shape.cells) (sym c.self.view_is) in
    ap (λ m. m.0.client) c.store.ensures.2
    ∙ cell_is _ _ (ap (λ (m : Made). m.shape) same) c.self.invariant.2 at c.args.word _ index (search rules) (subst (λ (p : ClientPart). ahead (released p) at < room p) (sym part) c.requires.room)
    ∙ ap (λ (p : ClientPart). stored_at p at c.args.word) part

pub invariant_of-pass : goal.invariant_of-pass
invariant_of-pass g c = let p = c.pass.invariant in pass_on c.pass.inside.seat.me _ _ _ _ _ _ _ _ p c.store.ensures.2 p.2 p.3 p.4
