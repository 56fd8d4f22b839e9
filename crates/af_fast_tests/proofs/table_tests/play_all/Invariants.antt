use Rattle.std.proofs.Common.{◌≤◌}
use Rattle.af_fast_tests.specs.Ready.{IsTable}
use Rattle.af_fast_tests.proofs.table_tests.play_all.Given as goal

abbrev pub invariant-loop-step : goal.invariant-loop-step
invariant-loop-step g l = record {
  table : IsTable l.links l.table.ends.mutator l.table.ends.mixer l.table.ends.reader l.table.ends.pipe l.table.clients.items l.table.servers.items l.table.pushes;
  few : l.right ≤ l.step-index;
}
