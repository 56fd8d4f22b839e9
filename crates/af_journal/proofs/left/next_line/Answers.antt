use Rattle.std.proofs.Common.{rules, ◌≡◌, Some}
use Rattle.af_journal.specs.LineReading.{line_at}
use Rattle.af_journal.specs.Readings.{cut}
use Rattle.af_journal.proofs.Leaving.{leaves-line, line-fits}
use Rattle.af_journal.proofs.Parts.{cut_shorter}
use Rattle.af_journal.proofs.left.next_line.Goals as goal

pub returns-clause-line : goal.returns-clause-line
returns-clause-line c =
    let part = c.in_ok-part.part.now in
    let after = c.in_ok-part.after.now in
    let front : cut c.args.bytes.now ≡ Some (part, after) = search rules in
    let line : line_at part ≡ Some c.in_ok-line.line = search rules in
    leaves-line c.args.bytes.now part after c.in_ok-line.line front line

pub returns-clause-fits : goal.returns-clause-fits
returns-clause-fits c =
    let line : line_at c.in_ok-part.part.now ≡ Some c.in_ok-line.line = search rules in
    line-fits c.in_ok-part.part.now c.in_ok-line.line line

pub returns-clause-shorter : goal.returns-clause-shorter
returns-clause-shorter c =
    let front : cut c.args.bytes.now ≡ Some (c.in_ok-part.part.now, c.in_ok-part.after.now) = search rules in
    cut_shorter c.args.bytes.now c.in_ok-part.part.now c.in_ok-part.after.now front
