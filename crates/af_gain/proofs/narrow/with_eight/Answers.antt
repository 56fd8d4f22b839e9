use Rattle.std.proofs.Common.{◌+◌, refl, arith}
use Rattle.af_gain.proofs.LaneSums.{lanes_more}
use Rattle.af_gain.proofs.narrow.with_eight.Goals as goal

pub returns : goal.returns
returns c = λ takes t at few heard are.
    record {
      first = lanes_more takes t at at 0 1 c.args.frames.now c.args.mono c.args.gains c.args.sums.first c.with_two.result few (omega arith) refl (omega arith) (omega arith) (omega arith) heard c.with_two.ensures.heard.0 c.with_two.ensures.heard.1 c.with_two.ensures.lanes are.first;
      second = lanes_more takes t at (at + 2) 2 3 c.args.frames.now c.args.mono c.args.gains c.args.sums.second c.with_two-2.result few (omega arith) refl (omega arith) (omega arith) (omega arith) heard c.with_two-2.ensures.heard.0 c.with_two-2.ensures.heard.1 c.with_two-2.ensures.lanes are.second;
      third = lanes_more takes t at (at + 4) 4 5 c.args.frames.now c.args.mono c.args.gains c.args.sums.third c.with_two-3.result few (omega arith) refl (omega arith) (omega arith) (omega arith) heard c.with_two-3.ensures.heard.0 c.with_two-3.ensures.heard.1 c.with_two-3.ensures.lanes are.third;
      fourth = lanes_more takes t at (at + 6) 6 7 c.args.frames.now c.args.mono c.args.gains c.args.sums.fourth c.with_two-4.result few (omega arith) refl (omega arith) (omega arith) (omega arith) heard c.with_two-4.ensures.heard.0 c.with_two-4.ensures.heard.1 c.with_two-4.ensures.lanes are.fourth;
    }
