use Rattle.std.proofs.Common.{◌≡◌, ◌≤◌, ◌+◌, false}
use Rattle.af_queue_tests.proofs.queue_threads.attach_by.Given as goal

abbrev pub invariant-loop-i : goal.invariant-loop-i
invariant-loop-i g l = (l.mutator.past.queue ≡ l.line) × (l.mutator.editing ≡ false) × (l.mutator.past.number ≤ l.i)

abbrev pub invariant-loop-i-2 : goal.invariant-loop-i-2
invariant-loop-i-2 g l = (l.mutator.past.queue ≡ l.line) × (l.mutator.editing ≡ false) × (l.mutator.past.number ≤ 10000000 + l._i)
