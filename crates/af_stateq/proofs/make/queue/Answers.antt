use Rattle.std.proofs.Common.{List, Option, None, replicate, false, refl, sym, ◌∙◌, subst}
use Rattle.af_stateq.proofs.Common.{FastState, slots}
use Rattle.af_stateq.specs.Mutates.{InDraft}
use Rattle.af_stateq.specs.Observes.{InOrder}
use Rattle.af_stateq.proofs.Start.{new_draft, new_order}
use Rattle.af_stateq.proofs.make.queue.Goals as goal

pub invariant_of-mutator : goal.invariant_of-mutator
invariant_of-mutator g c =
    let e = c.in_ok-queue.ensures.mutator in
    let first = c.first_state-first.ensures in (
      c.in_ok-spare.ensures,
      subst (λ (q : FastState × List (Option g.row.P.Denot) × List (Option g.row.P.Denot)). InDraft g.N.Fits.fits record {
        past = c.in_ok-queue.pushes;
        draft = q.0;
        dirty = false;
        editing = false;
        edited = false;
        pending = q.1;
        returned = q.2;
        out = replicate slots false;
      }) (λ i. (sym first i, sym c.in_ok-pending.ensures i, sym c.in_ok-returned.ensures i))
          (new_draft c.args.frames g.N.Fits.fits c.in_ok-queue.pushes (e.2 ∙ first) e.4 false false false),
    )

pub returns-clause-observer : goal.returns-clause-observer
returns-clause-observer g c =
    let e = c.in_ok-queue.ensures.observer in
    let first = c.first_state-first.ensures in (
      record { has_key = e.0; begins = e.1 ∙ first; silent = (e.2, e.4); empty = (refl, refl, c.in_ok-items.ensures) },
      subst (λ (q : List (Option g.row.P.Denot)). InOrder g.N.Fits.fits record { past = c.in_ok-queue.polls; current = None; previous = None; items = q }) (sym c.in_ok-items.ensures)
          (new_order c.args.frames g.N.Fits.fits c.in_ok-queue.polls (e.1 ∙ first) e.2 e.4),
    )
