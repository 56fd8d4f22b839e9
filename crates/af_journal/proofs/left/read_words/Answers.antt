use Rattle.std.proofs.Common.{rules, ◌≡◌, ◌≤◌, Some, length, arith}
use Rattle.af_journal.specs.Readings.{cut}
use Rattle.af_journal.proofs.Leaving.{leaves-words}
use Rattle.af_journal.proofs.left.read_words.Goals as goal

pub returns-clause-line : goal.returns-clause-line
returns-clause-line c =
    let bytes = c.args.left.now.rest.now in
    let front : cut bytes ≡ Some (c.in-Some.part.now, c.in-Some.after.now) = search rules in
    let count : length c.in_ok-words.words.items ≡ c.args.count = search rules in
    let some : 1 ≤ length c.in_ok-words.words.items = omega (arith, count, c.requires.some) in
    leaves-words bytes c.in-Some.part.now c.in-Some.after.now c.in-Some-digits_of.digits.now c.in_ok-words.words.items front (search rules) (search rules) some c.in_ok-words.ensures.fits
