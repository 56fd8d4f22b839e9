use Rattle.std.proofs.Common.{subst, arith}
use Rattle.af_session.proofs.Common.{All, All-more, IsFrame, take_all}
use Rattle.af_session.proofs.noting.know_frames.Goals as goal

pub loop-i-preserved : goal.loop-i-preserved
loop-i-preserved c = All-more IsFrame c.args.frames.now c.loop-i.i _ (omega (arith, c.loop-i-test.true, c.loop-i.auto.i-end)) c.loop-i.invariant c.known.ensures.frame

pub returns : goal.returns
returns c = subst (All IsFrame) (take_all c.loop-i.i c.args.frames.now (omega (arith, c.loop-i-test.false, c.loop-i.auto.i-end))) c.loop-i.invariant
