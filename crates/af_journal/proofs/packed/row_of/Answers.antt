use Rattle.std.proofs.Common.{◌*◌, ◌∙◌, sym, ap, arith, length-set}
use Rattle.af_journal.proofs.Common.{flat_map, take_all}
use Rattle.af_journal.specs.Lines.{hex_byte}
use Rattle.af_journal.proofs.Rows.{row-more}
use Rattle.af_journal.proofs.packed.row_of.Goals as goal

pub loop-i-preserved : goal.loop-i-preserved
loop-i-preserved c = record {
  long = simp length-set c.loop-i.invariant.long;
  made = row-more c.args.bytes.now c.loop-i.row c.loop-i.i c.digit_of.result c.digit_of-in-loop-i.result (omega arith) (omega arith) c.digit_of.ensures c.digit_of-in-loop-i.ensures c.loop-i.invariant.made;
}

pub returns : goal.returns
returns c = let row = c.loop-i.row in let i = c.loop-i.i in let bytes = c.args.bytes.now in
    sym (take_all (2 * i) row (omega arith))
    ∙ c.loop-i.invariant.made
    ∙ ap (flat_map hex_byte) (take_all i bytes (omega arith))
