use Rattle.af_judge.proofs.NormalLooked.{looked_on, right_on}
use Rattle.af_judge.proofs.normal_tells.all_looked.Goals as goal

pub loop-look-preserved : goal.loop-look-preserved
loop-look-preserved c = record {
  told = looked_on c.args.commands.now c.loop-look.commands c.args.looks.now c.loop-look.look-index _ c.loop-look-test.true c.loop-look.invariant.told c.commanded.new.self c.in_ok-right.ensures.told;
  right = right_on c.args.commands.now c.loop-look.commands c.args.looks.now c.loop-look.look-index _ c.loop-look-test.true c.loop-look.invariant.told c.loop-look.right c.in_ok-right.field-0 c.loop-look.invariant.right c.in_ok-right.ensures.right;
}
