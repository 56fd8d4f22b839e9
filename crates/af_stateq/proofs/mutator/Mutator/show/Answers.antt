use Rattle.std.proofs.Common.{ap, ◌∙◌}
use Rattle.af_stateq.proofs.Edits.{push_keeps_by}
use Rattle.af_stateq.proofs.mutator.Mutator.show.Goals as goal

pub invariant_of-self : goal.invariant_of-self
invariant_of-self g c =
    let i = c.self.invariant in (
      i.0,
      push_keeps_by g.N.Fits.fits _ i.1 _ _ c.push.ensures.state c.push.ensures.items (ap (λ m. m.past.clear) c.self.view_is ∙ c.requires.clear),
    )

pub returns-clause-holds : goal.returns-clause-holds
returns-clause-holds g c =
    let i = c.self.invariant in
    push_keeps_by g.N.Fits.fits _ i.1 _ _ c.push.ensures.state c.push.ensures.items (ap (λ m. m.past.clear) c.self.view_is ∙ c.requires.clear)
