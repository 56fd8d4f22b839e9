use Rattle.std.proofs.Common.{◌≡◌, ◌∙◌, ℕ, List, [], length, take, drop, sym, ap, subst, rules, refl, arith, All}
use Rattle.af_journal.proofs.Common.{CycleEntry, Frame, LieWithin, entries_inside, entries_of, frames_of, length-map, round_at}
use Rattle.af_journal.specs.Lines.{Written}
use Rattle.af_journal.specs.Texts.{GoesOn, fast_lines}
use Rattle.af_journal.specs.Logged.{logged_fast}
use Rattle.af_journal.proofs.Entries.{AreAllLogged, all-logged, all-within, round-same}
use Rattle.af_journal.proofs.writing.add_fast.Goals as goal

pub add_entries-requires-clause-there : goal.add_entries-requires-clause-there
add_entries-requires-clause-there c = let j = c.args.journal.now in let all = entries_of j.rounds in
    let ends = entries_inside j.rounds c.args.round c.requires.round in
    let same = length-map all (λ e. e.entry) in
    let entries = ap length c.log-log.ensures.entries in
    let first = c.cycles-first.ensures.first in let count = c.cycles-first.ensures.count in omega arith

pub add_entries-requires-clause-within : goal.add_entries-requires-clause-within
add_entries-requires-clause-within c = let j = c.args.journal.now in let log = c.log-log.result.now in let all = entries_of j.rounds in
    let logged : AreAllLogged (frames_of all) all = all-logged [] 0 all c.log-log.ensures.form.entries refl in
    let there : AreAllLogged log.frames all = subst (λ (l : List Frame). AreAllLogged l all) c.log-log.ensures.frames logged in
    subst (λ (l : List CycleEntry). All (LieWithin log.frames) l) c.log-log.ensures.entries (all-within log.frames all there)

pub returns : goal.returns
returns c = let j = c.args.journal.now in let log = c.log-log.result.now in let all = entries_of j.rounds in
    let logged : AreAllLogged (frames_of all) all = all-logged [] 0 all c.log-log.ensures.form.entries refl in
    let there : AreAllLogged log.frames all = subst (λ (l : List Frame). AreAllLogged l all) c.log-log.ensures.frames logged in
    let at = λ (entries : List CycleEntry) (first count : ℕ). logged_fast log.frames (take count (drop first entries)) in
    let same : fast_lines (round_at j c.args.round).entries ≡ at log.entries c.cycles-first.result.0 c.cycles-first.result.1 =
    round-same log.frames j.rounds c.args.round c.requires.round there
    ∙ ap (λ l. at l (length (entries_of (take c.args.round j.rounds))) (length (round_at j c.args.round).entries)) c.log-log.ensures.entries
    ∙ ap (λ n. at log.entries n (length (round_at j c.args.round).entries)) (sym c.cycles-first.ensures.first)
    ∙ ap (λ n. at log.entries c.cycles-first.result.0 n) (sym c.cycles-first.ensures.count) in
    let added : GoesOn c.args.text.now.bytes.items (at log.entries c.cycles-first.result.0 c.cycles-first.result.1) c.add_entries.new.text.bytes.items = search rules in
    subst (λ (lines : List Written). GoesOn c.args.text.now.bytes.items lines c.add_entries.new.text.bytes.items) (sym same) added
