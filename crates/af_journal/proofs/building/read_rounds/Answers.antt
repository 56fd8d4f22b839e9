use Rattle.std.proofs.Common.{rules, ◌≡◌, ◌<◌, ◌∷◌, [], length, true, subst}
use Rattle.af_journal.specs.declared.line.Line.TheVariants as line
use Rattle.af_journal.specs.declared.reach.End.{End}
use Rattle.af_journal.specs.Beginnings.{AreRead, is_last}
use Rattle.af_journal.specs.Lines.{numbers}
use Rattle.af_journal.specs.Taken.{Leaves}
use Rattle.af_journal.proofs.RoundsRead.{last_is, read-more, read-none, read-whole, taken-counted, taken-few}
use Rattle.af_journal.proofs.building.read_rounds.Goals as goal

pub rounds-init : goal.rounds-init
rounds-init c = read-none c.args.tracks c.args.reach c.args.left.now.rest.now c.args.noted.now c.args.taken.now.entries.items c.args.taken.now.frames.items c.requires.none

pub read_round-requires-clause-counted : goal.read_round-requires-clause-counted
read_round-requires-clause-counted c =
    let l = c.rounds in
    let some : is_last l.end ≡ true = search rules in
    let is = last_is l.end some in
    let taken = read-whole c.args.tracks c.args.reach c.args.left.now.rest.now l.left.rest.now l.end l.noted l.taken.entries.items l.taken.frames.items is l.invariant in
    taken-counted c.args.tracks l.invariant.rounds l.noted l.taken.entries.items l.taken.frames.items taken

pub read_round-requires-clause-few : goal.read_round-requires-clause-few
read_round-requires-clause-few c =
    let l = c.rounds in
    let some : is_last l.end ≡ true = search rules in
    let is = last_is l.end some in
    let taken = read-whole c.args.tracks c.args.reach c.args.left.now.rest.now l.left.rest.now l.end l.noted l.taken.entries.items l.taken.frames.items is l.invariant in
    let shorter : length c.in-Some.after.now < length l.left.rest.now = search rules in
    taken-few c.args.tracks l.invariant.rounds l.noted l.taken.entries.items l.taken.frames.items c.args.left.now.rest.now l.left.rest.now c.in-Some.after.now taken l.invariant.lines c.requires.few shorter

pub rounds-preserved : goal.rounds-preserved
rounds-preserved c =
    let l = c.rounds in
    let read = c.in_ok-read.ensures in
    let some : is_last l.end ≡ true = search rules in
    let is = last_is l.end some in
    let r = subst (λ (e : End). AreRead c.args.tracks c.args.reach c.args.left.now.rest.now e l.noted l.taken.entries.items l.taken.frames.items l.left.rest.now) is l.invariant in
    let mid = c.in-Some.after.now in
    let after = c.read_round.new.left.rest.now in
    let one : Leaves l.left.rest.now (numbers line.Round ∷ []) mid = search rules in
    read-more c.args.tracks c.args.reach c.requires.reach c.args.left.now.rest.now l.left.rest.now mid after l.noted c.read_round.new.noted l.taken.entries.items c.read_round.new.taken.entries.items l.taken.frames.items c.read_round.new.taken.frames.items
    c.in_ok-read.read r one read.0 read.1 read.2 c.end_after-end.result c.end_after-end.ensures
