use Rattle.std.proofs.Common.{arith}
use Rattle.af_rendering.proofs.FilesGiven.{writes_step, writes_over, writes_end}
use Rattle.af_rendering.proofs.given_files.write_within.Goals as goal

pub loop-i-preserved : goal.loop-i-preserved
loop-i-preserved c =
    let l = c.loop-i in
    writes_step _ c.args.ops.now l.i c.written_by-count.result l.left c.args.most (omega (arith, c.loop-i-test.true, l.auto.i-end)) c.written_by-count.ensures l.invariant (omega arith)

pub returns-then-left-count-clause-no : goal.returns-then-left-count-clause-no
returns-then-left-count-clause-no c = λ le.
    let l = c.loop-i in
    absurd (writes_over _ c.args.ops.now l.i c.written_by-count.result l.left c.args.most (omega (arith, c.loop-i-test.true, l.auto.i-end)) c.written_by-count.ensures l.invariant c.if-left-count.true le)

pub returns-clause-yes : goal.returns-clause-yes
returns-clause-yes c = λ yes.
    let l = c.loop-i in
    writes_end c.args.ops.now l.i l.left c.args.most (omega (arith, c.loop-i-test.false, l.auto.i-end)) l.invariant
