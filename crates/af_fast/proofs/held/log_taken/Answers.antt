use Rattle.std.proofs.Common.{◌≡◌, ◌++◌, ℕ, take, sym, ap, ◌∙◌, append-nil, arith}
use Rattle.af_fast.proofs.held.log_taken.Goals as goal

pub returns-else-count-gt0-clause-frames : goal.returns-else-count-gt0-clause-frames
returns-else-count-gt0-clause-frames c =
    let none : 0 ≡ c.args.count = omega arith in
    sym (append-nil c.args.log.now.frames) ∙ ap (λ (n : ℕ). c.args.log.now.frames ++ take n c.args.buffer.now) none
