use Rattle.std.proofs.Common.{◌≡◌, length, length-take, arith}
use Rattle.af_gain.proofs.Common.{All-take}
use Rattle.af_gain.specs.Sums.{IsWithin}
use Rattle.af_gain.proofs.Takes.{accumulated_front, bound_front}
use Rattle.af_gain.proofs.mixing.add_part.Goals as goal

pub returns-clause-sums : goal.returns-clause-sums
returns-clause-sums c =
    let same : length c.accumulate.new.sums ≡ length c.args.frames.now = omega (arith, length-take (length c.args.frames.now) c.args.sums.now) in
    accumulated_front c.args.frames.now c.args.mono c.args.gains c.args.sums.now c.accumulate.new.sums c.requires.lengths same c.accumulate.ensures.sums

pub returns-clause-bound : goal.returns-clause-bound
returns-clause-bound c = λ takes within.
    bound_front (length c.args.frames.now) takes c.args.sums.now c.accumulate.new.sums
    (c.accumulate.ensures.bound takes (All-take (IsWithin takes) (length c.args.frames.now) c.args.sums.now within)) within
