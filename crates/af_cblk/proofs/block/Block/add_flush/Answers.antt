use Rattle.std.proofs.Common.{rules, arith, ◌≡◌, ◌+◌, ◌<◌, refl, sym, ap, ◌∙◌, subst}
use Rattle.af_cblk.proofs.Common.{flushes_of}
use Rattle.af_base.specs.declared.event.ClientEvent.TheVariants as client
use Rattle.af_cblk.specs.declared.view.ClientPart.{ClientPart}
use Rattle.af_cblk.specs.Shape.{most_flushes}
use Rattle.af_cblk.specs.Parts.{flush_amount}
use Rattle.af_cblk.specs.Sides.{Made, client_made}
use Rattle.af_cblk.proofs.Calls.{flush_by_client}
use Rattle.af_cblk.proofs.Flushes.{flushes_fit}
use Rattle.af_cblk.proofs.Passes.{flushes-one, pass_on}
use Rattle.af_cblk.proofs.block.Block.add_flush.Goals as goal

pub fetch_add-requires : goal.fetch_add-requires
fetch_add-requires g c =
    let same = ap client_made c.pass.view_is ∙ c.requires.made ∙ sym c.self.view_is in
    let part = ap (λ z. z.part) c.pass.view_is in
    let few : flushes_of c.args.pass.now.part.events < most_flushes c.args.pass.now.part.shape.wrap =
    subst (λ (m : Made). flushes_of c.args.pass.now.part.events < most_flushes m.shape.wrap) (sym c.requires.made) c.requires.room in (
      ap (λ (m : Made). m.id) same,
      search rules,
      flush_by_client _ _ c.self.invariant.0 _ _ _ c.pass.invariant.0 (ap (λ (m : Made). m.shape) same)
          (subst (λ (p : ClientPart). flushes_of p.events < most_flushes p.shape.wrap) (sym part) few)
          c.flush_step-amount.result
          (c.flush_step-amount.ensures ∙ sym (ap flush_amount part)),
    )

pub overflow_add-pass : goal.overflow_add-pass
overflow_add-pass g c =
    let seen : flushes_of c.pass.inside.seat.me.0.client.events ≡ flushes_of c.args.pass.now.part.events = ap (λ z. flushes_of z.part.events) c.pass.view_is in
    let f = c.pass.invariant.3 in
    let few = flushes_fit c.args.self.now.shape.wrap (flushes_of c.args.pass.now.part.events) c.requires.room in
    search rules

pub invariant_of-pass : goal.invariant_of-pass
invariant_of-pass g c =
    let p = c.pass.invariant in
    let count = flushes-one c.pass.inside.seat.me.0.client.events client.Flush 1 refl in
    pass_on c.pass.inside.seat.me _ _ _ _ _ _ _ _ p c.fetch_add.ensures.2 p.2 (let f = p.3 in omega arith) p.2

pub returns-clause-count : goal.returns-clause-count
returns-clause-count g c = ap (λ n. n + 1) (c.pass.invariant.3 ∙ ap (λ z. flushes_of z.part.events) c.pass.view_is)
