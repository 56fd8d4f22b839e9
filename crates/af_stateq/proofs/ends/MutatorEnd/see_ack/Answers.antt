use Rattle.std.proofs.Common.{rules, ℕ, ◌==◌, sym, ◌∙◌, subst, inl, inr, ⊎_elim}
use Rattle.af_stateq.proofs.Common.{step}
use mathlib.Core.Option.{none}
use Rattle.af_stateq.specs.Shelved.{IsMutator}
use Rattle.af_stateq.proofs.Allowed.{looks_allowed}
use Rattle.af_stateq.proofs.Looks.{kept_look}
use Rattle.af_stateq.proofs.ends.MutatorEnd.see_ack.Goals as goal

pub load-seen-requires : goal.load-seen-requires
load-seen-requires g c = (search rules, search rules, looks_allowed _ _ _ _ _ c.self.invariant.mutates)

pub invariant_of-self : goal.invariant_of-self
invariant_of-self g c =
    subst (λ (z : ℕ). IsMutator c.load-seen.new.seat.me c.self.inside.number (c.load-seen.result == z)) (sym c.word_of.ensures)
    (kept_look g.N.Fits.fits (step 0 0 0 0 none) _ _ _ _ _ c.self.invariant c.load-seen.ensures.2
    (⊎_elim inl (λ e. inr (e.0, λ same. e.1 (same ∙ sym c.word_of.ensures))) c.then-has_shelves.either))
