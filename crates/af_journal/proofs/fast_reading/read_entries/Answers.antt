use Rattle.std.proofs.Common.{rules, ◌≡◌, ◌-◌, ◌<◌, arith, length, length-append, sym, subst, List, ◌∷◌, [], ◌++◌}
use Rattle.af_journal.proofs.Common.{CycleEntry, EntrySeen}
use Rattle.af_journal.specs.declared.line.Line.TheVariants as line
use Rattle.af_journal.specs.Lines.{numbers}
use Rattle.af_journal.specs.Taken.{AddsEntries, Leaves}
use Rattle.af_journal.specs.Texts.{entry_lines}
use Rattle.af_journal.proofs.EntriesRead.{adds-count, adds-more, leaves-entry}
use Rattle.af_journal.proofs.Leaving.{leaves-more}
use Rattle.af_journal.proofs.fast_reading.read_entries.Goals as goal

pub entries-preserved : goal.entries-preserved
entries-preserved c =
    let x = c.in-Some-Entry-default in
    let entry = c.in_ok-entry.entry in
    let made = c.in_ok-entry.ensures.entry in
    let old = c.args.taken.now in
    let now = c.entries.taken in
    let inv = c.entries.invariant in
    let first = c.args.left.now.rest.now in
    let before = c.entries.left.rest.now in
    let after = c.read_entry.new.left.rest.now in
    let e : EntrySeen = record { entry = entry; frames = made.0 } in
    let count = adds-count old.entries.items now.entries.items old.frames.items now.frames.items inv.0 inv.2 in
    let room : length now.entries.items - c.len-before.result < c.args.most = search rules in
    let less : length inv.0 < c.args.most = omega (arith, count, inv.1, room) in
    let items : c.push.new.self.items ≡ now.entries.items ++ entry ∷ [] = search rules in
    let one : Leaves before (numbers (line.Entry x.state x.kind) ∷ []) x.after.now = search rules in
    let own : Leaves before (entry_lines e) after = leaves-entry before x.after.now after x.state x.kind e c.in_ok-entry.ensures.state one made.2 in (
      inv.0 ++ e ∷ [],
      inv.1,
      subst (λ (l : List CycleEntry). AddsEntries old.entries.items old.frames.items (inv.0 ++ e ∷ []) l c.read_entry.new.frames.items) (sym items)
          (adds-more old.entries.items now.entries.items old.frames.items now.frames.items c.read_entry.new.frames.items inv.0 e inv.2 made.1),
      leaves-more entry_lines first before after inv.0 e inv.3 own,
      omega (arith, length-append inv.0 (e ∷ []), less),
    )

pub returns-clause-few : goal.returns-clause-few
returns-clause-few c =
    let old = c.args.taken.now in
    let now = c.entries.taken in
    let inv = c.entries.invariant in
    let count = adds-count old.entries.items now.entries.items old.frames.items now.frames.items inv.0 inv.2 in
    omega (arith, count, inv.1, inv.4)
