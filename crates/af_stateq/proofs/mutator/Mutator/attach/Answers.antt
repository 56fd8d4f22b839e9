use Rattle.std.proofs.Common.{ap, sym, ◌∙◌, arith}
use Rattle.af_stateq.proofs.Common.{one_shl}
use Rattle.af_stateq.specs.Mutates.{is_out}
use Rattle.af_stateq.proofs.Edits.{attach_keeps_by}
use Rattle.af_stateq.proofs.mutator.Mutator.attach.Goals as goal

pub invariant_of-self : goal.invariant_of-self
invariant_of-self g c =
    let v = c.self.view_is in
    let i = c.self.invariant in
    let r = c.requires in (
      i.0,
      attach_keeps_by g.N.Fits.fits _ i.1 c.args.slot r.slot.0 r.slot.1 c.args.mono c.args.scale c.args.track c.args.item r.scale (ap (λ m. is_out m.out c.args.slot) v ∙ r.free) (λ key k. r.fits key (sym (ap (λ m. m.past.key) v) ∙ k)) _ (one_shl c.args.slot 32 (omega arith)),
    )
