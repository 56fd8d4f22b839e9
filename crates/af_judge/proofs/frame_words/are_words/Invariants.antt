use Rattle.std.proofs.Common.{◌≡◌, true, map, take}
use Rattle.af_judge.proofs.Common.{packed_word}
use Rattle.af_judge.proofs.frame_words.are_words.Given as goal

abbrev pub invariant-loop-at : goal.invariant-loop-at
invariant-loop-at l = l.same ≡ true → take l.at l.words ≡ map packed_word (take l.at l.frames)
