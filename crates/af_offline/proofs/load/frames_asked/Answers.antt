use Rattle.std.proofs.Common.{arith}
use Rattle.af_offline.proofs.Loads.{writes_on}
use Rattle.af_offline.proofs.load.frames_asked.Goals as goal

pub loop-i-preserved : goal.loop-i-preserved
loop-i-preserved c =
    let l = c.loop-i in
    record {
      asked = writes_on _ c.args.ops.now l.i l.asked c.written_by-asked.result (omega (arith, c.loop-i-test.true, l.auto.i-end)) c.written_by-asked.ensures.value l.invariant.asked;
      few = omega (arith, l.invariant.few, c.written_by-asked.ensures.bound);
    }
