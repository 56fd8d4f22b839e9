use Rattle.std.proofs.Common.{◌≤◌, length, drop, ap, arith, length-append, length-drop}
use Rattle.af_journal.proofs.Common.{length-decimal-le}
use Rattle.std.specs.Prelude.{decimal}
use Rattle.af_journal.proofs.row.Row.put_digits.Goals as goal

pub write_digits-self-inside-requires : goal.write_digits-self-inside-requires
write_digits-self-inside-requires c =
    let i = c.self.inside in
    let few : length (decimal c.args.number) ≤ 20 = length-decimal-le 20 c.args.number (omega arith) (omega (arith, c.ranges.number.fits)) c.ranges.number.fits in
    let long = length-drop i.start i.bytes in
    let same = ap length c.self.view_is in
    (omega (arith, few, long, same, c.self.told, c.requires), omega (arith, c.self.told, c.self.invariant))

pub returns-clause-size : goal.returns-clause-size
returns-clause-size c =
    let i = c.self.inside in
    let few : length (decimal c.args.number) ≤ 20 = length-decimal-le 20 c.args.number (omega arith) (omega (arith, c.ranges.number.fits)) c.ranges.number.fits in
    let whole = ap length c.write_digits-self-inside.ensures.written in
    let parts = length-append (decimal c.args.number) (drop i.start i.bytes) in
    let same = ap length c.self.view_is in
    omega (arith, few, whole, parts, same)
