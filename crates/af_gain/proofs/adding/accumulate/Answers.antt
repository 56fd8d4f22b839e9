use Rattle.std.proofs.Common.{true, false, arith}
use Rattle.af_gain.proofs.Products.{accumulated_bound}
use Rattle.af_gain.proofs.adding.accumulate.Goals as goal

pub returns-then-mono-clause-bound : goal.returns-then-mono-clause-bound
returns-then-mono-clause-bound c = λ takes within.
    accumulated_bound c.args.frames.now true c.args.gains c.args.sums.now c.add_whole.new.sums takes (omega arith) (omega arith)
    (λ at h. c.add_whole.ensures.heard at h) (omega arith) c.add_whole.ensures.grown within

pub returns-else-mono-clause-bound : goal.returns-else-mono-clause-bound
returns-else-mono-clause-bound c = λ takes within.
    accumulated_bound c.args.frames.now false c.args.gains c.args.sums.now c.add_whole-else-mono.new.sums takes (omega arith) (omega arith)
    (λ at h. c.add_whole-else-mono.ensures.heard at h) (omega arith) c.add_whole-else-mono.ensures.grown within
