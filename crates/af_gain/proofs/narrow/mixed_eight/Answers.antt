use Rattle.std.proofs.Common.{ℕ, ◌+◌, List, [], ◌∷◌, length, get_or, ap}
use Rattle.af_gain.proofs.Common.{Frame, silence}
use Rattle.af_gain.specs.Sums.{IsWithin, sum_of}
use Rattle.af_gain.proofs.Lanes.{passed}
use Rattle.af_gain.proofs.LaneSums.{eight_are, less}
use Rattle.af_gain.proofs.narrow.mixed_eight.Goals as goal

pub returns : goal.returns
returns c = λ takes at few are.
    let small : (place : ℕ) → IsWithin (length takes) (sum_of takes place) → IsWithin 15 (sum_of takes place) = λ place within. less (length takes) 15 (sum_of takes place) few within in
    let first = c.mixed_lanes-first.ensures (sum_of takes at) (sum_of takes (at + 1)) (small at are.first.first) (small (at + 1) are.first.second) (passed _ _ c.args.sums.first (small (at) are.first.first) (small (at + 1) are.first.second) are.first.are) in
    let second = c.mixed_lanes-second.ensures (sum_of takes (at + 2)) (sum_of takes (at + 2 + 1)) (small (at + 2) are.second.first) (small (at + 2 + 1) are.second.second) (passed _ _ c.args.sums.second (small (at + 2) are.second.first) (small (at + 2 + 1) are.second.second) are.second.are) in
    let third = c.mixed_lanes-third.ensures (sum_of takes (at + 4)) (sum_of takes (at + 4 + 1)) (small (at + 4) are.third.first) (small (at + 4 + 1) are.third.second) (passed _ _ c.args.sums.third (small (at + 4) are.third.first) (small (at + 4 + 1) are.third.second) are.third.are) in
    let fourth = c.mixed_lanes-fourth.ensures (sum_of takes (at + 6)) (sum_of takes (at + 6 + 1)) (small (at + 6) are.fourth.first) (small (at + 6 + 1) are.fourth.second) (passed _ _ c.args.sums.fourth (small (at + 6) are.fourth.first) (small (at + 6 + 1) are.fourth.second) are.fourth.are) in
    eight_are takes at
    (get_or c.mixed_lanes-first.result 0 silence ∷ get_or c.mixed_lanes-first.result 1 silence ∷ get_or c.mixed_lanes-second.result 0 silence ∷ get_or c.mixed_lanes-second.result 1 silence ∷ get_or c.mixed_lanes-third.result 0 silence ∷ get_or c.mixed_lanes-third.result 1 silence ∷ get_or c.mixed_lanes-fourth.result 0 silence ∷ get_or c.mixed_lanes-fourth.result 1 silence ∷ [])
    (ap (λ (frames : List Frame). get_or frames 0 silence) first) (ap (λ (frames : List Frame). get_or frames 1 silence) first)
    (ap (λ (frames : List Frame). get_or frames 0 silence) second) (ap (λ (frames : List Frame). get_or frames 1 silence) second)
    (ap (λ (frames : List Frame). get_or frames 0 silence) third) (ap (λ (frames : List Frame). get_or frames 1 silence) third)
    (ap (λ (frames : List Frame). get_or frames 0 silence) fourth) (ap (λ (frames : List Frame). get_or frames 1 silence) fourth)
