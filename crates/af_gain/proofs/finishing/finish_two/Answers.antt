use Rattle.std.proofs.Common.{◌≡◌, ◌+◌, ℕ, List, ap, map, take, arith, get_or, set, length-set, subst}
use Rattle.af_gain.proofs.Common.{Frame, silence}
use Rattle.af_gain.specs.Sums.{sum_at, mixed_of}
use Rattle.af_gain.proofs.Steps.{mixed_more}
use Rattle.af_gain.proofs.finishing.finish_two.Goals as goal

pub returns : goal.returns
returns c = λ was.
    let at = c.args.at in
    let sums = c.args.sums.now in
    let out = c.args.out.now in
    let two = c.mixed_two-two.result in
    let first : get_or two 0 silence ≡ mixed_of (sum_at sums at) = ap (λ (xs : List Frame). get_or xs 0 silence) c.mixed_two-two.ensures in
    let second : get_or two 1 silence ≡ mixed_of (sum_at sums (at + 1)) = ap (λ (xs : List Frame). get_or xs 1 silence) c.mixed_two-two.ensures in
    let one = mixed_more sums out at (get_or two 0 silence) (omega arith) (omega arith) was first in
    let both = mixed_more sums (set out at (get_or two 0 silence)) (at + 1) (get_or two 1 silence) (omega arith) (rw length-set (omega arith)) one second in
    let end : at + 1 + 1 ≡ at + 2 = omega arith in
    subst (λ (n : ℕ). take n (set (set out at (get_or two 0 silence)) (at + 1) (get_or two 1 silence)) ≡ map mixed_of (take n sums)) end both
