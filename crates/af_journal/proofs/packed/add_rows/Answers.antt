use Rattle.std.proofs.Common.{◌≡◌, ◌++◌, ◌∙◌, rules}
use Rattle.af_journal.proofs.Rows.{eight-more}
use Rattle.af_journal.proofs.packed.add_rows.Goals as goal

pub loop-row-preserved : goal.loop-row-preserved
loop-row-preserved c =
    let added : c.extend_from_slice.new.self.items ≡ c.loop-row.text.bytes.items ++ c.row_of.result = search rules in
    added ∙ eight-more c.args.frames.now c.args.text.now.bytes.items c.loop-row.text.bytes.items c.bytes_of.result c.row_of.result c.loop-row.row c.loop-row.invariant c.bytes_of.ensures c.row_of.ensures
