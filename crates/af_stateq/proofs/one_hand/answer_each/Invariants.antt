use Rattle.std.proofs.Common.{◌≡◌, ◌+◌, ◌≤◌, ◌++◌, length, All}
use Rattle.af_stateq.proofs.Common.{QueueState, answers_of, into_iter_items, into_iter_len, state_after, vec_capacity}
use Rattle.af_stateq.specs.Observes.{InOrder}
use Rattle.af_stateq.specs.OneHand.{CallFits, HaveMet, SameEnds, Agrees}
use Rattle.af_stateq.proofs.one_hand.answer_each.Given as goal

abbrev pub invariant-loop-call : goal.invariant-loop-call
invariant-loop-call g l = (
    (q : QueueState g.row.P.Denot) → Agrees q l.fn.mutator l.fn.observer → (r : QueueState g.row.P.Denot) × Agrees r l.mutator l.observer
    × (l.answers.items ++ answers_of r (into_iter_items l.call-iterator) ≡ answers_of q (into_iter_items l.initial.call-iterator))
    × (state_after r (into_iter_items l.call-iterator) ≡ state_after q (into_iter_items l.initial.call-iterator))
    )
    × HaveMet l.mutator.past l.observer.past
    × InOrder g.N.Fits.fits l.observer
    × SameEnds l.fn.mutator l.fn.observer l.mutator l.observer
    × All (CallFits g.N.Fits.fits l.fn.mutator.past.key) (into_iter_items l.call-iterator)
    × (into_iter_len l.call-iterator ≡ length (into_iter_items l.call-iterator))
    × (length l.answers.items + length (into_iter_items l.call-iterator) ≤ vec_capacity l.answers)
