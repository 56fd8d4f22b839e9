use Rattle.std.proofs.Common.{rules, ◌≡◌, ◌+◌, ◌-◌, ◌%◌, ◌<◌, sym, ap, ◌∙◌, subst, arith}
use Rattle.af_cblk.proofs.Common.{Shape}
use Rattle.af_cblk.specs.declared.view.ClientPart.{ClientPart}
use Rattle.af_cblk.specs.Parts.{ahead, released, room, cell_stored}
use Rattle.af_cblk.specs.Shape.{IsShape}
use Rattle.af_cblk.specs.Sides.{Made, client_made}
use Rattle.af_cblk.proofs.Calls.{cell_within, cell_by_client}
use Rattle.af_cblk.proofs.Passes.{pass_on}
use Rattle.af_cblk.proofs.Sized.{sized}
use Rattle.af_cblk.proofs.Stores.{position_of}
use Rattle.af_cblk.proofs.block.Block.store_word.Goals as goal

pub store-requires : goal.store-requires
store-requires g c =
    let made = c.requires.made ∙ sym c.self.view_is in
    let same = ap client_made c.pass.view_is ∙ made in
    let part = ap (λ z. z.part) c.pass.view_is in
    let b = c.self.invariant in
    let p : ClientPart = c.args.pass.now.part in
    let key : p.shape ≡ c.self.inside.shape = ap (λ (m : Made). m.shape) made in
    let size : c.args.self.now.shape.cells ≡ p.shape.cells = ap (λ (m : Made). m.shape.cells) (sym c.requires.made) in
    let cell = c.requires.cell in
    let below : c.args.index - 7 < p.shape.cells = (let a = cell.0 in let d = cell.1 in omega arith) in
    let at = position_of p (c.args.index - 7) (sized p.shape (subst IsShape (sym key) b.2)) below c.requires.room in
    let place : c.args.index - 7 ≡ at.0 % c.self.inside.shape.cells = at.2 ∙ ap (λ (k : Shape). at.0 % k.cells) key in
    let index : c.args.index ≡ 7 + at.0 % c.self.inside.shape.cells = (let a = cell.0 in omega arith) in (
      ap (λ (m : Made). m.id) same,
      cell_within c.self.inside.shape b.2 at.0 _ _ index b.1,
      cell_by_client _ _ b.0 _ _ _ c.pass.invariant.0 (ap (λ (m : Made). m.shape) same) b.2 at.0 c.args.word _ index at.1 (search rules) (subst (λ (q : ClientPart). ahead (released q) at.0 < room q) (sym part) at.3),
    )

pub returns-clause-stored : goal.returns-clause-stored
returns-clause-stored g c = ap (λ m. m.0.client) c.store.ensures.2 ∙ ap (λ (p : ClientPart). cell_stored p (c.args.index - 7) c.args.word) (ap (λ z. z.part) c.pass.view_is)

pub invariant_of-pass : goal.invariant_of-pass
invariant_of-pass g c = let p = c.pass.invariant in pass_on c.pass.inside.seat.me _ _ _ _ _ _ _ _ p c.store.ensures.2 p.2 p.3 p.4
