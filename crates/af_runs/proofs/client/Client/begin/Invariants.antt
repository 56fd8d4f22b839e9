use Rattle.std.proofs.Common.{◌≡◌, ◌-◌, length, List}
use Rattle.af_runs.specs.Clients.{begun, due_of}
use Rattle.af_runs.specs.Kept.{ClientKept, WritesLast, client_of}
use Rattle.af_runs.proofs.client.Client.begin.Given as goal

abbrev pub invariant-loop-self : goal.invariant-loop-self
invariant-loop-self l = record {
  same : begun (client_of l.ops (record { due = due_of l.self-inside.due; at = l.self-inside.at; mode = l.self-inside.mode; waiting = l.self-inside.waiting; ended = l.self-inside.ended })) ≡ begun (client_of l.ops (record { due = due_of l.initial.self-inside.due; at = l.initial.self-inside.at; mode = l.initial.self-inside.mode; waiting = l.initial.self-inside.waiting; ended = l.initial.self-inside.ended }));
  writes : WritesLast (due_of l.self-inside.due);
}

abbrev pub decreases-loop-self : goal.decreases-loop-self
decreases-loop-self l = length l.ops - l.self-inside.at
