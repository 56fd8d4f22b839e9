use Rattle.std.proofs.Common.{false}
use Rattle.af_judge.proofs.TakesDue.{goes_by, never, at_end}
use Rattle.af_judge.proofs.takes_due.are_mixed_here.Goals as goal

pub returns-in_default : goal.returns-in_default
returns-in_default c = never c.args.takes.now c.args.tracks.now c.loop-i.next c.loop-i.i c.is_mixed_here.result c.loop-i.invariant.left c.loop-i-test.true c.is_mixed_here.ensures c.in_default.ensures

pub loop-i-preserved : goal.loop-i-preserved
loop-i-preserved c = record {
  there = c.in-Some.ensures.0;
  left = goes_by c.args.takes.now c.args.tracks.now c.loop-i.next c.loop-i.i c.is_mixed_here.result c.loop-i.invariant.left c.in-Some.after c.loop-i-test.true c.is_mixed_here.ensures c.in-Some.ensures.1;
}

pub returns : goal.returns
returns c = at_end c.args.takes.now c.args.tracks.now c.loop-i.next c.loop-i.i false c.loop-i.invariant.left c.loop-i-test.false c.loop-i.invariant.there
