use Rattle.std.proofs.Common.{rules, sym, ap, ◌∙◌, refl}
use Rattle.af_base.specs.declared.event.ClientEvent.TheVariants as client
use Rattle.af_cblk.specs.Sides.{Made, client_made}
use Rattle.af_cblk.proofs.Calls.{front_by_client}
use Rattle.af_cblk.proofs.Passes.{pass_did}
use Rattle.af_cblk.proofs.block.Block.client_front.Goals as goal

pub load-found-requires : goal.load-found-requires
load-found-requires g c =
    let same = ap client_made c.pass.view_is ∙ c.requires ∙ sym c.self.view_is in
    (ap (λ (m : Made). m.id) same, search rules, front_by_client _ _ c.self.invariant.0 _ _ _ c.pass.invariant.0 (ap (λ (m : Made). m.shape) same) c.self.invariant.2)

pub invariant_of-pass : goal.invariant_of-pass
invariant_of-pass g c = pass_did c.pass.inside.seat.me _ _ _ _ _ (client.SawFront _) c.pass.invariant c.load-found.ensures.2.0 refl refl refl refl
