use Rattle.std.proofs.Common.{◌≡◌, ◌*◌}
use Rattle.af_record.specs.Ends.{capture_made}
use Rattle.af_queue_tests.proofs.record_tests.supply_in.Given as goal

abbrev pub invariant-loop-round : goal.invariant-loop-round
invariant-loop-round g l = (capture_made l.capture ≡ l.block) × (l.capture.supplied ≡ 1000 * l.round)
