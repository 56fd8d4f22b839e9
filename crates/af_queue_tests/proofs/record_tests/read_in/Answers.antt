use Rattle.std.proofs.Common.{arith}
use Rattle.af_queue_tests.proofs.record_tests.read_in.Goals as goal

pub loop-read-preserved : goal.loop-read-preserved
loop-read-preserved g c =
    let few = c.read-count.ensures.few in
    let now = c.read-count.ensures.total in
    let was = c.loop-read.invariant.1 in
    (c.read-count.ensures.made, omega arith)
