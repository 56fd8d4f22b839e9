use Rattle.std.proofs.Common.{rules, arith}
use Rattle.af_journal.proofs.FirstLine.{block_more}
use Rattle.af_journal.proofs.reading.line_end.Goals as goal

pub blocks-2-preserved : goal.blocks-2-preserved
blocks-2-preserved c = record {
  inside = omega arith;
  before = block_more c.args.bytes.now c.blocks-2.at (omega arith) c.blocks-2.invariant.before (search rules);
}
