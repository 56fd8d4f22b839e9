-- Each of the four lanes is a side of one of the two sums.
use Rattle.std.proofs.Common.{◌+◌, ◌≡◌, ℤ, [], ◌∷◌}
use Rattle.af_gain.proofs.Common.{frame_at, right_sample}
use Rattle.af_gain.specs.Sums.{sum_at}
use Rattle.af_gain.proofs.Takes.{pair_of}
use Rattle.af_gain.proofs.Lanes.{IsLane, part_fits, wide_fits, more_fits, lane_is}
use Rattle.af_gain.proofs.adding.grown_two.Goals as goal

two : {a b d e f g h i : ℤ} → a ≡ b → d ≡ e → f ≡ g → h ≡ i → pair_of a d ∷ pair_of f h ∷ [] ≡ pair_of b e ∷ pair_of g i ∷ []
two p q r s = cc

pub overflow_mul-parts : goal.overflow_mul-parts
overflow_mul-parts c =
    let heard = c.heard_pair-samples.ensures.heard in
    let first = c.requires.room.0 in
    let second = c.requires.room.1 in
    let lane_0 : IsLane (sum_at c.args.sums.now c.args.at).left (frame_at c.args.frames.now c.args.at).left c.from-left.result c.args.left_gain = record { fits = heard.0.left; is = c.from-left.ensures; unity = c.requires.unity.0; room = first.left } in
    let lane_1 : IsLane (sum_at c.args.sums.now c.args.at).right (right_sample c.args.mono (frame_at c.args.frames.now c.args.at)) c.from-right.result c.args.right_gain = record { fits = heard.0.right; is = c.from-right.ensures; unity = c.requires.unity.1; room = first.right } in
    let lane_2 : IsLane (sum_at c.args.sums.now (c.args.at + 1)).left (frame_at c.args.frames.now (c.args.at + 1)).left c.from-left.result c.args.left_gain = record { fits = heard.1.left; is = c.from-left.ensures; unity = c.requires.unity.0; room = second.left } in
    let lane_3 : IsLane (sum_at c.args.sums.now (c.args.at + 1)).right (right_sample c.args.mono (frame_at c.args.frames.now (c.args.at + 1))) c.from-right.result c.args.right_gain = record { fits = heard.1.right; is = c.from-right.ensures; unity = c.requires.unity.1; room = second.right } in
    rw c.heard_pair-samples.ensures.lanes (part_fits _ _ _ _ lane_0, (part_fits _ _ _ _ lane_1, (part_fits _ _ _ _ lane_2, (part_fits _ _ _ _ lane_3, tt))))

pub overflow_cast-sides : goal.overflow_cast-sides
overflow_cast-sides c =
    let heard = c.heard_pair-samples.ensures.heard in
    let first = c.requires.room.0 in
    let second = c.requires.room.1 in
    let lane_0 : IsLane (sum_at c.args.sums.now c.args.at).left (frame_at c.args.frames.now c.args.at).left c.from-left.result c.args.left_gain = record { fits = heard.0.left; is = c.from-left.ensures; unity = c.requires.unity.0; room = first.left } in
    let lane_1 : IsLane (sum_at c.args.sums.now c.args.at).right (right_sample c.args.mono (frame_at c.args.frames.now c.args.at)) c.from-right.result c.args.right_gain = record { fits = heard.0.right; is = c.from-right.ensures; unity = c.requires.unity.1; room = first.right } in
    let lane_2 : IsLane (sum_at c.args.sums.now (c.args.at + 1)).left (frame_at c.args.frames.now (c.args.at + 1)).left c.from-left.result c.args.left_gain = record { fits = heard.1.left; is = c.from-left.ensures; unity = c.requires.unity.0; room = second.left } in
    let lane_3 : IsLane (sum_at c.args.sums.now (c.args.at + 1)).right (right_sample c.args.mono (frame_at c.args.frames.now (c.args.at + 1))) c.from-right.result c.args.right_gain = record { fits = heard.1.right; is = c.from-right.ensures; unity = c.requires.unity.1; room = second.right } in
    rw c.heard_pair-samples.ensures.lanes (wide_fits _ _ _ _ lane_0, (wide_fits _ _ _ _ lane_1, (wide_fits _ _ _ _ lane_2, (wide_fits _ _ _ _ lane_3, tt))))

pub overflow_add-sides : goal.overflow_add-sides
overflow_add-sides c =
    let heard = c.heard_pair-samples.ensures.heard in
    let first = c.requires.room.0 in
    let second = c.requires.room.1 in
    let lane_0 : IsLane (sum_at c.args.sums.now c.args.at).left (frame_at c.args.frames.now c.args.at).left c.from-left.result c.args.left_gain = record { fits = heard.0.left; is = c.from-left.ensures; unity = c.requires.unity.0; room = first.left } in
    let lane_1 : IsLane (sum_at c.args.sums.now c.args.at).right (right_sample c.args.mono (frame_at c.args.frames.now c.args.at)) c.from-right.result c.args.right_gain = record { fits = heard.0.right; is = c.from-right.ensures; unity = c.requires.unity.1; room = first.right } in
    let lane_2 : IsLane (sum_at c.args.sums.now (c.args.at + 1)).left (frame_at c.args.frames.now (c.args.at + 1)).left c.from-left.result c.args.left_gain = record { fits = heard.1.left; is = c.from-left.ensures; unity = c.requires.unity.0; room = second.left } in
    let lane_3 : IsLane (sum_at c.args.sums.now (c.args.at + 1)).right (right_sample c.args.mono (frame_at c.args.frames.now (c.args.at + 1))) c.from-right.result c.args.right_gain = record { fits = heard.1.right; is = c.from-right.ensures; unity = c.requires.unity.1; room = second.right } in
    rw c.heard_pair-samples.ensures.lanes (more_fits _ _ _ _ lane_0, (more_fits _ _ _ _ lane_1, (more_fits _ _ _ _ lane_2, (more_fits _ _ _ _ lane_3, tt))))

pub returns-clause-sums : goal.returns-clause-sums
returns-clause-sums c =
    let heard = c.heard_pair-samples.ensures.heard in
    let first = c.requires.room.0 in
    let second = c.requires.room.1 in
    let lane_0 : IsLane (sum_at c.args.sums.now c.args.at).left (frame_at c.args.frames.now c.args.at).left c.from-left.result c.args.left_gain = record { fits = heard.0.left; is = c.from-left.ensures; unity = c.requires.unity.0; room = first.left } in
    let lane_1 : IsLane (sum_at c.args.sums.now c.args.at).right (right_sample c.args.mono (frame_at c.args.frames.now c.args.at)) c.from-right.result c.args.right_gain = record { fits = heard.0.right; is = c.from-right.ensures; unity = c.requires.unity.1; room = first.right } in
    let lane_2 : IsLane (sum_at c.args.sums.now (c.args.at + 1)).left (frame_at c.args.frames.now (c.args.at + 1)).left c.from-left.result c.args.left_gain = record { fits = heard.1.left; is = c.from-left.ensures; unity = c.requires.unity.0; room = second.left } in
    let lane_3 : IsLane (sum_at c.args.sums.now (c.args.at + 1)).right (right_sample c.args.mono (frame_at c.args.frames.now (c.args.at + 1))) c.from-right.result c.args.right_gain = record { fits = heard.1.right; is = c.from-right.ensures; unity = c.requires.unity.1; room = second.right } in
    let is_0 = lane_is _ _ _ _ lane_0 in
    let is_1 = lane_is _ _ _ _ lane_1 in
    let is_2 = lane_is _ _ _ _ lane_2 in
    let is_3 = lane_is _ _ _ _ lane_3 in
    rw c.heard_pair-samples.ensures.lanes (two is_0 is_1 is_2 is_3)
