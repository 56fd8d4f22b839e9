use Rattle.std.proofs.Common.{arith}
use Rattle.af_journal.proofs.Common.{common_steps}
use Rattle.af_journal.proofs.DigitLines.{cut-frames}
use Rattle.af_journal.proofs.left.frame_digits.Goals as goal

pub returns-in_ok-digits-in-104-clause-line : goal.returns-in_ok-digits-in-104-clause-line
returns-in_ok-digits-in-104-clause-line c =
    let e = c.in_ok-digits-in-104.ensures in
    cut-frames c.args.bytes.now _ c.in_ok-digits-in-104.digits.now c.in_ok-digits-in-104.after.now e.bytes e.digits.0 (grind (arith, common_steps))
