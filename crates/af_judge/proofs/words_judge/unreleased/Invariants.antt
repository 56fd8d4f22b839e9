use Rattle.std.proofs.Common.{All, take}
use Rattle.af_judge.specs.Blocks.{IsReleased}
use Rattle.af_judge.proofs.words_judge.unreleased.Given as goal

abbrev pub invariant-loop-at : goal.invariant-loop-at
invariant-loop-at l = All (IsReleased l.released) (take l.at l.taken)
