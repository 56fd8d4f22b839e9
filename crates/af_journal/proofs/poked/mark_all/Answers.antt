use Rattle.std.proofs.Common.{rules, ◌≡◌, Some, None}
use Rattle.af_journal.specs.LineReading.{line_at}
use Rattle.af_journal.specs.Readings.{cut}
use Rattle.af_journal.proofs.MarkLines.{marks_begin, marks_end, marks_more, noted_as}
use Rattle.af_journal.proofs.Parts.{cut_shorter}
use Rattle.af_journal.proofs.poked.mark_all.Goals as goal

pub lines-init : goal.lines-init
lines-init c = λ ws fits is. marks_begin ws c.args.bytes.now c.args.streams.now c.args.commands.now fits is

pub lines-smaller : goal.lines-smaller
lines-smaller c =
    let front : cut c.lines.rest.now ≡ Some (c.in-Some.part.now, c.in-Some.after.now) = search rules in
    cut_shorter c.lines.rest.now c.in-Some.part.now c.in-Some.after.now front

pub lines-preserved : goal.lines-preserved
lines-preserved c = λ ws fits is.
    let part = c.in-Some.part.now in
    let after = c.in-Some.after.now in
    let front : cut c.lines.rest.now ≡ Some (part, after) = search rules in
    let n = c.note_part-own.ensures in
    marks_more ws c.lines.own c.note_part-own.result c.lines.rest.now part after c.args.streams.now c.args.commands.now c.lines.streams c.lines.commands c.note_part-own.new.streams c.note_part-own.new.commands (c.lines.invariant ws fits is) front
    (noted_as (line_at part) c.lines.own c.note_part-own.result c.lines.streams c.lines.commands c.note_part-own.new.streams c.note_part-own.new.commands n.other n.noted)

pub returns : goal.returns
returns c = λ ws fits is.
    let end : cut c.lines.rest.now ≡ None = search rules in
    marks_end ws c.lines.own c.lines.rest.now c.args.streams.now c.args.commands.now c.lines.streams c.lines.commands (c.lines.invariant ws fits is) end
