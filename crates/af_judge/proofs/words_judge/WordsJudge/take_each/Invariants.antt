use Rattle.std.proofs.Common.{◌≡◌, ◌++◌, map, take}
use Rattle.af_judge.proofs.Common.{packed_word}
use Rattle.af_judge.specs.Blocks.{placed_from}
use Rattle.af_judge.proofs.words_judge.WordsJudge.take_each.Given as goal

abbrev pub invariant-loop-past : goal.invariant-loop-past
invariant-loop-past l = l.self ≡ record l.fn.self { taken = l.fn.self.taken ++ placed_from l.at (map packed_word (take l.past l.frames)) }
