use Rattle.std.proofs.Common.{◌≡◌, ◌≤◌, List, length}
use Rattle.af_journal.proofs.Common.{EntrySeen, flat_map}
use Rattle.af_journal.specs.Taken.{AddsEntries, Leaves}
use Rattle.af_journal.specs.Texts.{entry_lines}
use Rattle.af_journal.proofs.fast_reading.read_entries.Given as goal

abbrev pub invariant-entries : goal.invariant-entries
invariant-entries l = (seen : List EntrySeen) × (l.before ≡ length l.initial.taken.entries.items) × AddsEntries l.initial.taken.entries.items l.initial.taken.frames.items seen l.taken.entries.items l.taken.frames.items × Leaves l.initial.left.rest.now (flat_map entry_lines seen) l.left.rest.now × (length seen ≤ l.most)

abbrev pub decreases-entries : goal.decreases-entries
decreases-entries l = length l.left.rest.now
