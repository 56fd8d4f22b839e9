use Rattle.std.proofs.Common.{rules, ◌-◌, sym, ap, ◌∙◌, refl}
use Rattle.af_base.specs.declared.event.ClientEvent.TheVariants as client
use Rattle.af_cblk.specs.Sides.{Made, client_made}
use Rattle.af_cblk.proofs.Calls.{clear_by_client}
use Rattle.af_cblk.proofs.Passes.{pass_did}
use Rattle.af_cblk.proofs.block.Block.clear_flags.Goals as goal

pub fetch_and-found-requires : goal.fetch_and-found-requires
fetch_and-found-requires g c =
    let same = ap client_made c.pass.view_is ∙ c.requires.made ∙ sym c.self.view_is in
    (ap (λ (m : Made). m.id) same, search rules, clear_by_client _ _ c.self.invariant.0 _ _ _ c.pass.invariant.0 (ap (λ (m : Made). m.shape) same) _ (ap (λ z. 4294967295 - z) c.requires.bits))

pub invariant_of-pass : goal.invariant_of-pass
invariant_of-pass g c = pass_did c.pass.inside.seat.me _ _ _ _ _ (client.ClearFlags _) c.pass.invariant c.fetch_and-found.ensures.2 refl refl refl refl
