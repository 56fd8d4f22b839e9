use Rattle.std.proofs.Common.{rules, ap, ◌∙◌, arith}
use Rattle.af_stateq.proofs.Common.{carries, get_or_default, one_shl}
use Rattle.af_stateq.proofs.Edits.{detach_keeps_by}
use Rattle.af_stateq.proofs.mutator.Mutator.detach.Goals as goal

pub invariant_of-self : goal.invariant_of-self
invariant_of-self g c =
    let i = c.self.invariant in
    let r = c.requires in (
      i.0,
      detach_keeps_by g.N.Fits.fits _ i.1 c.args.slot r.slot.0 r.slot.1 (ap (λ m. carries m.draft c.args.slot) c.self.view_is ∙ r.attached) _ _ _ (one_shl c.args.slot 32 (omega arith)) (search rules) (c.take.ensures.value ∙ c.index_mut.ensures.value ∙ get_or_default c.self.inside.pending.items c.args.slot _ _ (let l = i.1.lengths.0 in omega arith)),
    )
