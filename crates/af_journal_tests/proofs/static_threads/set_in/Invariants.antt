use Rattle.std.proofs.Common.{◌≡◌, ◌+◌, ◌≤◌}
use Rattle.af_latest.specs.Laws.{stores}
use Rattle.af_journal_tests.proofs.static_threads.set_in.Given as goal

abbrev pub invariant-loop-number : goal.invariant-loop-number
invariant-loop-number g l = record {
  together : l.setter.cell ≡ l.shared.cell;
  few : stores l.setter.events + 1 ≤ l.number;
}
