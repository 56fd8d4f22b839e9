use Rattle.std.proofs.Common.{◌∙◌, map, ap, sym, arith, length-set}
use Rattle.af_judge.proofs.Common.{packed_word, take_all}
use Rattle.af_judge.proofs.FrameWords.{stored-more}
use Rattle.af_judge.proofs.frame_words.sixteen_words.Goals as goal

pub loop-i-preserved : goal.loop-i-preserved
loop-i-preserved c = record {
  long = simp length-set c.loop-i.invariant.long;
  made = stored-more c.loop-i.words c.args.frames.now c.loop-i.i c.pack.result _ (omega arith) (omega arith) c.pack.ensures c.loop-i.invariant.made;
}

pub returns : goal.returns
returns c =
    let words = c.loop-i.words in let i = c.loop-i.i in
    sym (take_all i words (omega arith)) ∙ (c.loop-i.invariant.made ∙ ap (map packed_word) (take_all i c.args.frames.now (omega arith)))
