use Rattle.std.proofs.Common.{◌*◌, ◌∙◌, map, sym, ap, arith, length-set}
use Rattle.af_journal.proofs.Common.{flat_map, packed_word, take_all, to_be_bytes, w32}
use Rattle.af_journal.proofs.Rows.{bytes-more}
use Rattle.af_journal.proofs.packed.bytes_of.Goals as goal

pub loop-i-preserved : goal.loop-i-preserved
loop-i-preserved c =
    let is = c.to_be_bytes.ensures ∙ ap (to_be_bytes w32) c.pack.ensures in
    record {
      long = simp length-set c.loop-i.invariant.long;
      made = bytes-more c.args.frames.now c.loop-i.bytes c.to_be_bytes.result c.loop-i.i _ (omega arith) (omega arith) is c.loop-i.invariant.made;
    }

pub returns : goal.returns
returns c = let bytes = c.loop-i.bytes in let i = c.loop-i.i in
    sym (take_all (4 * i) bytes (omega arith))
    ∙ c.loop-i.invariant.made
    ∙ ap (λ l. flat_map (to_be_bytes w32) (map packed_word l)) (take_all i c.args.frames.now (omega arith))
