use Rattle.std.proofs.Common.{length}
use Rattle.af_journal.specs.Taken.{Leaves}
use Rattle.af_journal.specs.Texts.{call_lines}
use Rattle.af_journal.proofs.building.read_calls.Given as goal

abbrev pub invariant-calls : goal.invariant-calls
invariant-calls l = Leaves l.initial.left.rest.now (call_lines l.calls.items) l.left.rest.now

abbrev pub decreases-calls : goal.decreases-calls
decreases-calls l = length l.left.rest.now
