use Rattle.std.proofs.Common.{◌≡◌, ◌+◌, ◌≤◌, ◌++◌, length}
use Rattle.af_model.proofs.Common.{vec_capacity}
use Rattle.std.specs.Vec.Iter.{into_iter_items, into_iter_len}
use Rattle.af_model.specs.PlainQueue.{answers_of, state_after}
use Rattle.af_model.proofs.plain_queue.PlainQueue.answer_each.Given as goal

abbrev pub invariant-loop-call : goal.invariant-loop-call
invariant-loop-call g l = (l.answers.items ++ answers_of l.self (into_iter_items l.call-iterator) ≡ answers_of l.initial.self (into_iter_items l.initial.call-iterator))
    × (state_after l.self (into_iter_items l.call-iterator) ≡ state_after l.initial.self (into_iter_items l.initial.call-iterator))
    × (into_iter_len l.call-iterator ≡ length (into_iter_items l.call-iterator))
    × (length l.answers.items + length (into_iter_items l.call-iterator) ≤ vec_capacity l.answers)
