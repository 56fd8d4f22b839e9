use Rattle.std.proofs.Common.{◌≡◌, ◌+◌, ◌<◌, ◌∷◌, List, length, take, drop, subst, sym, rules}
use Rattle.af_journal.proofs.Common.{entry_at, flat_map, no_entry}
use Rattle.af_journal.specs.declared.line.Line.TheVariants as line
use Rattle.af_journal.specs.Lines.{Written, numbers}
use Rattle.af_journal.specs.Texts.{GoesOn}
use Rattle.af_journal.specs.Logged.{logged_entry}
use Rattle.af_journal.proofs.Texts.{goes-then, part-more}
use Rattle.af_journal.proofs.fast.add_entries.Goals as goal

pub overflow_add-first : goal.overflow_add-first
overflow_add-first c = search rules

pub loop-i-preserved : goal.loop-i-preserved
loop-i-preserved c = let log = c.args.log.now in let first = c.args.first in let i = c.loop-i.i in let f = logged_entry log.frames in
    let is : c.in-Some.entry.now ≡ entry_at log.entries (first + i) = search rules in
    let added : GoesOn c.loop-i.text.bytes.items (f (entry_at log.entries (first + i))) c.add_entry.new.text.bytes.items = search rules in
    let inside : first + i < length log.entries = search rules in
    let all = numbers line.Fast ∷ flat_map f (take i (drop first log.entries)) in
    subst (λ (lines : List Written). GoesOn c.args.text.now.bytes.items (numbers line.Fast ∷ lines) c.add_entry.new.text.bytes.items) (sym (part-more f log.entries first i no_entry inside))
    (goes-then c.args.text.now.bytes.items c.loop-i.text.bytes.items c.add_entry.new.text.bytes.items all (f (entry_at log.entries (first + i))) c.loop-i.invariant added)
