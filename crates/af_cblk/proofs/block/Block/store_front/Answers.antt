use Rattle.std.proofs.Common.{rules, sym, ap, ◌∙◌, subst}
use Rattle.af_cblk.specs.declared.view.ServerPart.{ServerPart}
use Rattle.af_cblk.specs.Parts.{MayStoreFront}
use Rattle.af_cblk.specs.Sides.{Made, server_made}
use Rattle.af_cblk.proofs.Calls.{front_stored_by_server}
use Rattle.af_cblk.proofs.block.Block.store_front.Goals as goal

pub store-requires : goal.store-requires
store-requires g c =
    let same = ap server_made c.pass.view_is ∙ c.requires.made ∙ sym c.self.view_is in (
      ap (λ (m : Made). m.id) same,
      search rules,
      front_stored_by_server _ _ c.self.invariant.0 _ _ _ c.pass.invariant.0 (ap (λ (m : Made). m.shape) same) c.self.invariant.2 c.args.position (search rules)
          (subst (λ (p : ServerPart). MayStoreFront p c.args.position) (sym (ap (λ z. z.part) c.pass.view_is)) c.requires.position),
    )
