use Rattle.std.proofs.Common.{◌≡◌, length, map, take}
use Rattle.af_judge.proofs.Common.{packed_word}
use Rattle.af_judge.proofs.frame_words.sixteen_words.Given as goal

abbrev pub invariant-loop-i : goal.invariant-loop-i
invariant-loop-i l = record {
  long : length l.words ≡ 16;
  made : take l.i l.words ≡ map packed_word (take l.i l.frames);
}
