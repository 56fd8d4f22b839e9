use Rattle.std.proofs.Common.{◌+◌, ◌<◌, sym, ap, ◌∙◌, subst, refl}
use Rattle.af_base.specs.declared.event.ClientEvent.TheVariants as client
use Rattle.af_cblk.specs.Sides.{Made, client_made}
use Rattle.af_cblk.proofs.Calls.{poke_by_client}
use Rattle.af_cblk.proofs.Passes.{pass_did}
use Rattle.af_cblk.proofs.block.Block.poke.Goals as goal

pub store-requires : goal.store-requires
store-requires g c =
    let same = ap client_made c.pass.view_is ∙ c.requires.made ∙ sym c.self.view_is in
    let b = c.self.invariant in
    let inside = subst (λ (m : Made). c.args.word < 7 + m.shape.cells) (sym c.self.view_is) c.requires.word in (
      ap (λ (m : Made). m.id) same,
      subst (λ n. c.args.word < n) (sym b.1) inside,
      poke_by_client _ _ b.0 _ _ _ c.pass.invariant.0 (ap (λ (m : Made). m.shape) same) c.args.word c.args.value,
    )

pub invariant_of-pass : goal.invariant_of-pass
invariant_of-pass g c = pass_did c.pass.inside.seat.me _ _ _ _ _ (client.Poke _ _) c.pass.invariant c.store.ensures.2 refl refl refl refl
