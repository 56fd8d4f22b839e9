use Rattle.std.proofs.Common.{◌≡◌, length, map}
use Rattle.af_journal.specs.Taken.{Leaves}
use Rattle.af_journal.specs.Texts.{client_lines, each_from}
use Rattle.af_journal.proofs.building.read_clients.Given as goal

abbrev pub invariant-loop-track : goal.invariant-loop-track
invariant-loop-track l = record {
  lines : Leaves l.initial.left.rest.now (each_from client_lines 0 (map (λ c. c.items) l.clients.items)) l.left.rest.now;
  each : length l.clients.items ≡ l.track;
}
