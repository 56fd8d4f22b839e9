-- Each of the four lanes is a side of one of the two sums.
use Rattle.std.proofs.Common.{◌+◌, arith}
use Rattle.af_gain.proofs.Common.{four, frame_at, right_sample}
use Rattle.af_gain.proofs.Lanes.{narrow_is, narrow_part_fits}
use Rattle.af_gain.proofs.narrow.with_two.Goals as goal

pub overflow_mul-result : goal.overflow_mul-result
overflow_mul-result c =
    let gains = c.args.gains in
    let heard = c.heard_two.ensures.heard in
    rw c.heard_two.ensures.lanes (rw c.gain_lanes.ensures (
      narrow_part_fits (frame_at c.args.frames.now c.args.at).left gains.0 heard.0.left (omega arith),
      (
        narrow_part_fits (right_sample c.args.mono (frame_at c.args.frames.now c.args.at)) gains.1 heard.0.right (omega arith),
        (
          narrow_part_fits (frame_at c.args.frames.now (c.args.at + 1)).left gains.0 heard.1.left (omega arith),
          (narrow_part_fits (right_sample c.args.mono (frame_at c.args.frames.now (c.args.at + 1))) gains.1 heard.1.right (omega arith), tt),
        ),
      ),
    ))

pub returns-clause-lanes : goal.returns-clause-lanes
returns-clause-lanes c = λ first second a b is.
    let gains = c.args.gains in
    let heard = c.heard_two.ensures.heard in
    rw is (rw c.heard_two.ensures.lanes (rw c.gain_lanes.ensures (four
    (narrow_is first.left (frame_at c.args.frames.now c.args.at).left gains.0 a.left heard.0.left (omega arith))
    (narrow_is first.right (right_sample c.args.mono (frame_at c.args.frames.now c.args.at)) gains.1 a.right heard.0.right (omega arith))
    (narrow_is second.left (frame_at c.args.frames.now (c.args.at + 1)).left gains.0 b.left heard.1.left (omega arith))
    (narrow_is second.right (right_sample c.args.mono (frame_at c.args.frames.now (c.args.at + 1))) gains.1 b.right heard.1.right (omega arith)))))
