use Rattle.std.proofs.Common.{◌≡◌, ◌≤◌, ◌+◌, ℕ, length, map, subst, arith}
use Rattle.af_gain.proofs.Common.{length-map, take_of}
use Rattle.af_gain.specs.Narrow.{AreMixedTo}
use Rattle.af_gain.proofs.narrow.mix_sixteen.Goals as goal

pub returns : goal.returns
returns c = λ was.
    let takes = map take_of c.args.parts.now in
    let few : length takes ≤ 15 = rw length-map c.requires.few in
    let sums = c.sixteen_sums-sums.ensures in
    let end : c.args.at + 8 + 8 ≡ c.args.at + 16 = omega arith in
    subst (λ (n : ℕ). AreMixedTo n takes c.write_eight-2.new.out) end
    (c.write_eight-2.ensures takes few sums.high (c.write_eight.ensures takes few sums.low was))
