use Rattle.std.proofs.Common.{rules, ◌≢◌, Bool, true, Some, ◌+◌, [], ◌∷◌, ◌++◌, ap, sym, ◌∙◌, subst}
use Rattle.af_stateq.proofs.Common.{SawNext, step}
use mathlib.Core.Option.{none}
use Rattle.af_stateq.specs.Shelved.{word, IsObserver}
use Rattle.af_stateq.proofs.Allowed.{polls_allowed}
use Rattle.af_stateq.proofs.Hands.{are_moved, fit_moved}
use Rattle.af_stateq.proofs.Looks.{took, came_held, seen_first, seen_cell, seen_look}
use Rattle.af_stateq.proofs.ends.ObserverEnd.look.Goals as goal

pub load-seen-requires : goal.load-seen-requires
load-seen-requires g c = let i = c.self.invariant in (search rules, search rules, polls_allowed _ _ _ _ _ i.observes (i.is_due ∙ ap (λ v. v.due) c.self.view_is ∙ c.requires.due) i.out)

pub slot_mut-cell-requires : goal.slot_mut-cell-requires
slot_mut-cell-requires g c =
    let i = subst (λ (b : Bool). IsObserver c.self.inside.seat.me c.self.inside.number b) (ap (λ v. v.due) c.self.view_is ∙ c.requires.due) c.self.invariant in
    let l = c.load-seen.ensures.2 in
    let new : c.load-seen.result ≢ word c.self.inside.number = λ same. c.if-seen-word_of.false (same ∙ sym c.word_of.ensures) in
    let h = came_held g.N.Fits.fits (step 0 0 0 0 none) _ _ _ _ i l new in
    let x = c.exchange.ensures.exchanged _ _ h.0 h.1 in
    (search rules, (_, seen_first g.N.Fits.fits (step 0 0 0 0 none) _ _ _ _ i l new _ x.0 c.exchange.ensures.same.2 x.2))

pub invariant_of-self-2 : goal.invariant_of-self-2
invariant_of-self-2 g c =
    let i = subst (λ (b : Bool). IsObserver c.self.inside.seat.me c.self.inside.number b) (ap (λ v. v.due) c.self.view_is ∙ c.requires.due) c.self.invariant in
    let l = c.load-seen.ensures.2 in
    let new : c.load-seen.result ≢ word c.self.inside.number = λ same. c.if-seen-word_of.false (same ∙ sym c.word_of.ensures) in
    let h = came_held g.N.Fits.fits (step 0 0 0 0 none) _ _ _ _ i l new in
    let x = c.exchange.ensures.exchanged _ _ h.0 h.1 in
    subst (λ cs. IsObserver (c.exchange.new.seat.me.0, cs) c.self.inside.number true) c.slot_mut-cell.ensures.value
    (seen_look g.N.Fits.fits (step 0 0 0 0 none) _ _ _ _ i l new _ x.0 c.exchange.ensures.same.2 x.2 (x.1 ∙ c.requires.empty))

pub returns-clause-seen : goal.returns-clause-seen
returns-clause-seen g c =
    let i = subst (λ (b : Bool). IsObserver c.self.inside.seat.me c.self.inside.number b) (ap (λ v. v.due) c.self.view_is ∙ c.requires.due) c.self.invariant in
    let l = c.load-seen.ensures.2 in
    let new : c.load-seen.result ≢ word c.self.inside.number = λ same. c.if-seen-word_of.false (same ∙ sym c.word_of.ensures) in
    let h = came_held g.N.Fits.fits (step 0 0 0 0 none) _ _ _ _ i l new in
    let x = c.exchange.ensures.exchanged _ _ h.0 h.1 in
    let t = took g.N.Fits.fits (step 0 0 0 0 none) _ _ _ _ i l new in
    let is = seen_cell g.N.Fits.fits (step 0 0 0 0 none) _ _ _ _ i l new _ x.0 c.exchange.ensures.same.2 x.2 _ c.slot_mut-cell.ensures.value in
    let w = ap (λ v. v.observing) (c.exchange.ensures.same.2 ∙ ap (λ m. m.0) t.3) in
    let view = c.self.view_is in (
      λ j. record {
        queue = (c.exchange.ensures.same.0 ∙ c.load-seen.ensures.0 ∙ ap (λ v. v.queue) view) j;
        key = (ap (λ o. o.key) w ∙ ap (λ v. v.key) view) j;
        number = ap (λ v. v.number) view j;
        state = (ap (λ o. o.state) w ∙ ap (λ v. v.state) view) j;
        due = true;
        next = (ap (λ o. o.next) w ∙ ap (λ y. y.state) (sym is)) j;
        events = (ap (λ o. o.events) w ∙ (λ k. c.self.inside.seat.me.0.observing.events ++ SawNext (i.number k + 1) (Some (sym is k).state) (sym x.3 k) ∷ []) ∙ ap (λ v. v.events ++ SawNext (v.number + 1) (Some c.slot_mut-cell.result.now.state) c.exchange.new.items.items ∷ []) view) j;
      },
      are_moved _ _ _ _ _ _ (ap (λ y. y.state) (sym is)) (ap (λ v. v.state) view) x.3 t.1,
      fit_moved g.N.Fits.fits _ _ _ _ _ _ (ap (λ v. v.key) view) (ap (λ y. y.state) (sym is)) x.3 t.2,
    )
