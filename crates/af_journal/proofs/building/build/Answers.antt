use Rattle.std.proofs.Common.{rules, ◌∙◌, ◌<◌, ◌≤◌, ◌^◌, ap, Bool, sym, subst, length, arith}
use Rattle.af_journal.specs.Beginnings.{IsFrontOf, is_last}
use Rattle.af_journal.specs.Judged.{EndsBeyond}
use Rattle.af_journal.proofs.Beginnings.{begun}
use Rattle.af_journal.proofs.RoundsRead.{journal-form, journal-is, journal-whole, read-fit}
use Rattle.af_journal.proofs.building.build.Goals as goal

pub note_rest-requires : goal.note_rest-requires
note_rest-requires c =
    let taken = c.read_rounds.new.taken in
    let few : length c.args.bytes.now < 2 ^ 63 = search rules in
    read-fit c.args.tracks c.args.reach c.args.bytes.now c.read_rounds.new.left.rest.now c.in_ok-end.end c.read_rounds.new.noted taken.entries.items taken.frames.items c.in_ok-end.ensures few

pub new-requires-3-clause-whole : goal.new-requires-3-clause-whole
new-requires-3-clause-whole c =
    let r = c.in_ok-end.ensures in let taken = c.read_rounds.new.taken in let log = c.of-log.result in
    let some : 1 ≤ c.args.reach.kept = (let few = c.requires.0 in omega (arith, few)) in
    let b = begun c.args.tracks c.ranges.tracks.fits c.args.reach c.args.bytes.now c.read_rounds.new.left.rest.now c.read_rounds.new.noted c.note_rest.new.noted taken.entries.items taken.frames.items some c.in_ok-end.end r c.in_ok-note_rest.ensures in
    journal-whole c.args.tracks b.rounds_are c.note_rest.new.noted taken.entries.items taken.frames.items b.taken_are log (ap (λ l. l.entries) c.of-log.ensures) (ap (λ l. l.frames) c.of-log.ensures)

pub new-requires-3-clause-form : goal.new-requires-3-clause-form
new-requires-3-clause-form c =
    let r = c.in_ok-end.ensures in let taken = c.read_rounds.new.taken in let log = c.of-log.result in
    let some : 1 ≤ c.args.reach.kept = (let few = c.requires.0 in omega (arith, few)) in
    let b = begun c.args.tracks c.ranges.tracks.fits c.args.reach c.args.bytes.now c.read_rounds.new.left.rest.now c.read_rounds.new.noted c.note_rest.new.noted taken.entries.items taken.frames.items some c.in_ok-end.end r c.in_ok-note_rest.ensures in
    journal-form c.args.tracks b.rounds_are c.note_rest.new.noted taken.entries.items taken.frames.items b.taken_are log (ap (λ l. l.entries) c.of-log.ensures) (ap (λ l. l.frames) c.of-log.ensures) c.ranges.tracks.fits b.fits

pub returns-clause-front : goal.returns-clause-front
returns-clause-front c =
    let r = c.in_ok-end.ensures in let taken = c.read_rounds.new.taken in let log = c.of-log.result in
    let some : 1 ≤ c.args.reach.kept = (let few = c.requires.0 in omega (arith, few)) in
    let b = begun c.args.tracks c.ranges.tracks.fits c.args.reach c.args.bytes.now c.read_rounds.new.left.rest.now c.read_rounds.new.noted c.note_rest.new.noted taken.entries.items taken.frames.items some c.in_ok-end.end r c.in_ok-note_rest.ensures in
    let is = journal-is c.args.tracks b.rounds_are c.note_rest.new.noted taken.entries.items taken.frames.items b.taken_are log (ap (λ l. l.entries) c.of-log.ensures) (ap (λ l. l.frames) c.of-log.ensures) in
    subst (λ (w : Bool). IsFrontOf c.args.reach.kept c.args.tracks c.args.bytes.now w c.new-3.result) (sym c.is_last-whole.ensures)
    (subst (IsFrontOf c.args.reach.kept c.args.tracks c.args.bytes.now (is_last c.in_ok-end.end)) (sym (c.new-3.ensures ∙ is)) b.front)

pub returns-clause-beyond : goal.returns-clause-beyond
returns-clause-beyond c = λ whole none.
    let r = c.in_ok-end.ensures in let taken = c.read_rounds.new.taken in let log = c.of-log.result in
    let some : 1 ≤ c.args.reach.kept = (let few = c.requires.0 in omega (arith, few)) in
    let b = begun c.args.tracks c.ranges.tracks.fits c.args.reach c.args.bytes.now c.read_rounds.new.left.rest.now c.read_rounds.new.noted c.note_rest.new.noted taken.entries.items taken.frames.items some c.in_ok-end.end r c.in_ok-note_rest.ensures in
    let is = journal-is c.args.tracks b.rounds_are c.note_rest.new.noted taken.entries.items taken.frames.items b.taken_are log (ap (λ l. l.entries) c.of-log.ensures) (ap (λ l. l.frames) c.of-log.ensures) in
    subst (EndsBeyond c.args.reach.entries c.args.reach.looks) (sym (c.new-3.ensures ∙ is)) (b.beyond (sym c.is_last-whole.ensures ∙ whole) none)
