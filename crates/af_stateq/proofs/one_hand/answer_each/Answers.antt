use Rattle.std.proofs.Common.{◌≡◌, suc, List, [], ◌∷◌, ◌++◌, length, refl, sym, ap, ◌∙◌, subst, append_assoc, append-nil, arith, rules, All}
use Rattle.af_stateq.proofs.Common.{QueueAnswer, QueueCall, QueueState, answers_of, into_iter_items, no_items, state_after}
use Rattle.af_model.specs.PlainQueue.{step}
use Rattle.af_stateq.specs.Mutates.{Mutates}
use Rattle.af_stateq.specs.Observes.{Observes}
use Rattle.af_stateq.specs.OneHand.{CallFits, Agrees}
use Rattle.af_stateq.proofs.OneHand.{meeting_agrees}
use Rattle.af_stateq.proofs.Told.{order_learns}
use Rattle.af_stateq.proofs.one_hand.answer_each.Goals as goal

all_but_first : {X : Type 0} (F : X → Type 0) (x : X) (xs : List X) → All F (x ∷ xs) → All F xs
all_but_first F x xs all k d lt = all (suc k) d (omega arith)

pub loop-call-init : goal.loop-call-init
loop-call-init g c =
    let m = c.args.mutator.now in
    let o = c.args.observer.now in
    let calls = into_iter_items c.into_iter-call-iterator.result in
    let gives = c.into_iter-call-iterator.ensures.into_iter_gives in (
      (λ q a. (
        q,
        meeting_agrees q m o c.meet.new.mutator c.meet.new.observer _ _ a c.meet.ensures.mutator c.meet.ensures.observer,
        ap (λ (l : List (QueueAnswer g.row.P.Denot)). l ++ answers_of q calls) c.in-Ok.ensures.items,
        refl,
      )),
      search rules,
      order_learns g.N.Fits.fits o c.meet.new.observer _ c.requires.order c.meet.ensures.observer,
      (
        ap (λ (z : Mutates g.row.P.Denot g.row.N-Key.Denot). z.past.queue) c.meet.ensures.mutator,
        ap (λ (z : Mutates g.row.P.Denot g.row.N-Key.Denot). z.past.key) c.meet.ensures.mutator,
        ap (λ (z : Mutates g.row.P.Denot g.row.N-Key.Denot). z.past.first) c.meet.ensures.mutator,
        ap (λ (z : Observes g.row.P.Denot g.row.N-Key.Denot). z.past.queue) c.meet.ensures.observer,
      ),
      subst (λ (l : List (QueueCall g.row.P.Denot)). All (CallFits g.N.Fits.fits m.past.key) l) (sym gives.0) c.requires.fits,
      search rules,
      search rules,
    )

pub loop-call-preserved : goal.loop-call-preserved
loop-call-preserved g c =
    let at = c.loop-call.invariant in
    let call = c.in-Some.call in
    let left = into_iter_items c.next.new.self in
    let done = c.loop-call.answers.items in
    let steps : into_iter_items c.loop-call.call-iterator ≡ call ∷ left = c.in-Some.ensures.steps.0 in
    let same = c.answer_one.ensures.same in (
      (λ q a.
          let t = at.0 q a in
          let w = c.answer_one.ensures.answer t.0 t.1 in
          let next = (step t.0 call).1 in (
            next,
            w.1,
            ap (λ (l : List (QueueAnswer g.row.P.Denot)). l ++ answers_of next left) c.push_reserved.ensures.items
                ∙ append_assoc done (c.answer_one.result ∷ []) (answers_of next left)
                ∙ ap (λ (x : QueueAnswer g.row.P.Denot). done ++ x ∷ answers_of next left) w.0
                ∙ ap (λ (l : List (QueueCall g.row.P.Denot)). done ++ answers_of t.0 l) (sym steps)
                ∙ t.2,
            ap (λ (l : List (QueueCall g.row.P.Denot)). state_after t.0 l) (sym steps) ∙ t.3,
          )),
      c.answer_one.ensures.met,
      c.answer_one.ensures.order,
      (same.0 ∙ at.3.0, same.1 ∙ at.3.1, same.2 ∙ at.3.2, same.3 ∙ at.3.3),
      all_but_first (CallFits g.N.Fits.fits c.args.mutator.now.past.key) call left (subst (λ (l : List (QueueCall g.row.P.Denot)). All (CallFits g.N.Fits.fits c.args.mutator.now.past.key) l) steps at.4),
      (let was = at.5 in
          let gone = c.in-Some.ensures.steps.1 in
          let short = ap (λ (l : List (QueueCall g.row.P.Denot)). length l) steps in
          omega arith),
      search rules,
    )

pub returns-clause-answers : goal.returns-clause-answers
returns-clause-answers g c q a =
    let at = c.loop-call in
    let t = at.invariant.0 q a in
    let empty : into_iter_items at.call-iterator ≡ [] = no_items _ (sym at.invariant.5 ∙ c.in-None.ensures.steps.0) in
    sym (append-nil at.answers.items)
    ∙ ap (λ (l : List (QueueCall g.row.P.Denot)). at.answers.items ++ answers_of t.0 l) (sym empty)
    ∙ t.2
    ∙ ap (λ (l : List (QueueCall g.row.P.Denot)). answers_of q l) c.into_iter-call-iterator.ensures.into_iter_gives.0

pub returns-clause-state : goal.returns-clause-state
returns-clause-state g c q a =
    let at = c.loop-call in
    let t = at.invariant.0 q a in
    let empty : into_iter_items at.call-iterator ≡ [] = no_items _ (sym at.invariant.5 ∙ c.in-None.ensures.steps.0) in
    subst (λ (z : QueueState g.row.P.Denot). Agrees z at.mutator at.observer)
    (ap (λ (l : List (QueueCall g.row.P.Denot)). state_after t.0 l) (sym empty) ∙ t.3 ∙ ap (λ (l : List (QueueCall g.row.P.Denot)). state_after q l) c.into_iter-call-iterator.ensures.into_iter_gives.0)
    t.1
