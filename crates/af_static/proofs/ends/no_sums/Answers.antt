use Rattle.std.proofs.Common.{refl, arith}
use Rattle.af_static.proofs.ends.no_sums.Goals as goal

pub returns-clause-zero : goal.returns-clause-zero
returns-clause-zero c k d inside =
    let made = c.in_ok-sums.ensures.len in
    let filled = c.in_ok-resize.ensures.len in
    c.in_ok-resize.ensures.by_index.1 k d refl (omega arith) (omega arith)
