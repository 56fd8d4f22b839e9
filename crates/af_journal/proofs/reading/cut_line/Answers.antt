use Rattle.std.proofs.Common.{rules, ◌≡◌, ◌+◌, ◌<◌, Some, None, take, drop, length, arith}
use Rattle.af_journal.proofs.Common.{common_steps}
use Rattle.af_journal.specs.Readings.{cut}
use Rattle.af_journal.proofs.FirstLine.{cut_at, cut_none}
use Rattle.af_journal.proofs.reading.cut_line.Goals as goal

pub returns-then-place-bytes : goal.returns-then-place-bytes
returns-then-place-bytes c =
    let bytes = c.args.bytes.now in
    let place = c.line_end-place.result in
    let inside : place < length bytes = search rules in
    let e : cut bytes ≡ Some (take place bytes, drop (place + 1) bytes) = cut_at bytes place inside c.line_end-place.ensures.before (c.line_end-place.ensures.here inside) in
    first_of (search rules, cc, grind (arith, common_steps))

pub returns-else-place-bytes : goal.returns-else-place-bytes
returns-else-place-bytes c =
    let bytes = c.args.bytes.now in
    let e : cut bytes ≡ None = cut_none bytes (λ k h. c.line_end-place.ensures.before k (omega arith)) in
    first_of (search rules, cc, grind (arith, common_steps))
