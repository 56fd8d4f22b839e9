use Rattle.std.proofs.Common.{◌≡◌, ◌+◌, ◌*◌, ◌≤◌}
use Rattle.af_record.specs.Ends.{listener_made}
use Rattle.af_queue_tests.proofs.record_tests.read_in.Given as goal

abbrev pub invariant-loop-read : goal.invariant-loop-read
invariant-loop-read g l = (listener_made l.listener ≡ l.block) × (l.listener.total ≤ l.fn.listener.total + 1024 * l.read)
