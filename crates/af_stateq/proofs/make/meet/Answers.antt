use Rattle.std.proofs.Common.{ap, sym, ◌∙◌}
use Rattle.af_stateq.specs.Ends.{Pushes}
use Rattle.af_stateq.proofs.Start.{past_keeps}
use Rattle.af_stateq.proofs.make.meet.Goals as goal

pub invariant_of-mutator : goal.invariant_of-mutator
invariant_of-mutator g c =
    let i = c.mutator.invariant in
    let e = c.meet_ends.ensures.mutator in (
      i.0,
      past_keeps g.N.Fits.fits _ i.1 c.meet_ends.new.mutator (e ∙ λ j. record c.mutator.inside.end { events = ap (λ (p : Pushes g.row.P.Denot g.row.N-Key.Denot). p.events) (sym e) j }),
    )
