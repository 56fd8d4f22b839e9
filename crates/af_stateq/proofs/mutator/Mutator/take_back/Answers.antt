use Rattle.std.proofs.Common.{rules, ◌≡◌, ◌&&◌, not, Bool, true, false, is_some, IfSome, Some, ap, sym, ◌∙◌, arith, subst}
use Rattle.af_stateq.proofs.Common.{get_or_default, slot_of}
use Rattle.af_stateq.specs.Mutates.{Mutates, at, is_out}
use Rattle.af_stateq.proofs.Edits.{take_keeps_by, taken_fits}
use Rattle.af_stateq.proofs.mutator.Mutator.take_back.Goals as goal

flipped : (a b : Bool) → a ≡ not b → b ≡ not a
flipped a true e = sym (ap not e)
flipped a false e = sym (ap not e)

pub invariant_of-self : goal.invariant_of-self
invariant_of-self g c =
    let i = c.self.invariant in
    let r = c.requires in
    let s : c.take-item.result ≡ at c.self.inside.returned.items c.args.slot
    = c.take-item.ensures.value ∙ c.index_mut.ensures.value ∙ get_or_default c.self.inside.returned.items c.args.slot _ _ (let l = i.1.lengths.1 in omega arith) in (
      i.0,
      take_keeps_by g.N.Fits.fits _ i.1 c.args.slot r.slot.0 r.slot.1 _ _ (search rules)
          (ap (λ b. is_out c.self.inside.out c.args.slot && b) (flipped _ _ c.is_none.ensures ∙ ap (λ o. not (is_some o)) s)),
    )

pub returns-clause-fits : goal.returns-clause-fits
returns-clause-fits g c =
    let i = c.self.invariant in
    let r = c.requires in
    let s : c.take-item.result ≡ at c.self.inside.returned.items c.args.slot
    = c.take-item.ensures.value ∙ c.index_mut.ensures.value ∙ get_or_default c.self.inside.returned.items c.args.slot _ _ (let l = i.1.lengths.1 in omega arith) in
    subst (λ (m : Mutates g.row.P.Denot g.row.N-Key.Denot). IfSome c.take-item.result (λ p. (key : g.row.N-Key.Denot) → m.past.key ≡ Some key → g.N.Fits.fits key (slot_of m.draft c.args.slot).track p)) c.self.view_is
    (taken_fits g.N.Fits.fits _ i.1 c.args.slot r.slot.0 r.slot.1 c.take-item.result s)
