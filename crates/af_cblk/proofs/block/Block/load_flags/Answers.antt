use Rattle.std.proofs.Common.{rules, ◌≡◌, ℕ, ◌%◌, ◌^◌, true, bit_and, sym, ap, ◌∙◌, subst, refl}
use Rattle.af_cblk.proofs.Common.{and_mask, is_lawful}
use Rattle.af_base.specs.declared.event.ClientEvent.TheVariants as client
use Rattle.af_cblk.specs.declared.view.ClientPart.{ClientPart}
use Rattle.af_cblk.specs.Plays.{HasFlags}
use Rattle.af_cblk.specs.Sides.{Made, client_made}
use Rattle.af_cblk.proofs.Calls.{flags_by_client}
use Rattle.af_cblk.proofs.Passes.{pass_did}
use Rattle.af_cblk.proofs.block.Block.load_flags.Goals as goal

pub load-found-requires : goal.load-found-requires
load-found-requires g c =
    let same = ap client_made c.pass.view_is ∙ c.requires ∙ sym c.self.view_is in
    (ap (λ (m : Made). m.id) same, search rules, flags_by_client _ _ c.self.invariant.0 _ _ _ c.pass.invariant.0 (ap (λ (m : Made). m.shape) same))

pub returns-clause-flags : goal.returns-clause-flags
returns-clause-flags g c = λ ok.
    let n : ℕ = c.load-found.result in
    let part = ap (λ z. z.part) c.pass.view_is in
    let word : n % 2 ^ 32 ≡ bit_and n 4294967295 = sym (and_mask n 32) in
    subst (λ (x : ClientPart × ℕ). HasFlags x.0 x.1) (λ i. (part i, word i)) (c.load-found.ensures.2.1 (subst (λ (p : ClientPart). is_lawful p.events ≡ true) (sym part) ok))

pub invariant_of-pass : goal.invariant_of-pass
invariant_of-pass g c = pass_did c.pass.inside.seat.me _ _ _ _ _ (client.SawFlags _) c.pass.invariant c.load-found.ensures.2.0 refl refl refl refl
