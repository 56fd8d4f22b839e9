use Rattle.std.proofs.Common.{rules, ◌+◌, ◌%◌, ◌^◌, ℕ, sym, ap, ◌∙◌, subst}
use Rattle.af_cblk.specs.declared.view.ClientPart.{ClientPart}
use Rattle.af_cblk.specs.Parts.{AreStored, released}
use Rattle.af_cblk.specs.Sides.{Made, client_made}
use Rattle.af_cblk.proofs.Calls.{rear_by_client, rear_is}
use Rattle.af_cblk.proofs.Numbers.{past}
use Rattle.af_cblk.proofs.Passes.{pass_rear}
use Rattle.af_cblk.proofs.block.Block.store_rear.Goals as goal

pub store-requires : goal.store-requires
store-requires g c =
    let same = ap client_made c.pass.view_is ∙ c.requires.made ∙ sym c.self.view_is in
    let part = ap (λ z. z.part) c.pass.view_is in
    let b = c.self.invariant in
    let me = c.pass.inside.seat.me in (
      ap (λ (m : Made). m.id) same,
      search rules,
      rear_by_client _ _ b.0 _ _ me c.pass.invariant.0 (ap (λ (m : Made). m.shape) same) c.args.count _ (search rules)
          (ap (λ (n : ℕ). (n + c.args.count) % 2 ^ 32) c.pass.invariant.2 ∙ past (released me.0.client) c.args.count)
          (subst (λ (p : ClientPart). AreStored p c.args.count) (sym part) c.requires.stored),
    )

pub invariant_of-pass : goal.invariant_of-pass
invariant_of-pass g c =
    let p = c.pass.invariant in
    let me = c.pass.inside.seat.me in
    pass_rear me _ _ _ _ _ _ p c.store.ensures.2 (rear_is me.0.client _ (search rules))
