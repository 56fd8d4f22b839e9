use Rattle.std.proofs.Common.{◌≡◌, ◌*◌, ◌++◌, map, take}
use Rattle.af_judge.proofs.Common.{packed_word}
use Rattle.af_judge.proofs.frame_words.append.Given as goal

abbrev pub invariant-loop-row : goal.invariant-loop-row
invariant-loop-row l = l.words.items ≡ l.fn.words.items ++ map packed_word (take (16 * l.row) l.frames)

abbrev pub invariant-loop-at : goal.invariant-loop-at
invariant-loop-at l = l.words.items ≡ l.fn.words.items ++ map packed_word (take l.at l.frames)
