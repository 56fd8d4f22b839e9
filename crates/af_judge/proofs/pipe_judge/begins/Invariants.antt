use Rattle.std.proofs.Common.{◌≡◌, take}
use Rattle.af_judge.proofs.pipe_judge.begins.Given as goal

abbrev pub invariant-loop-at : goal.invariant-loop-at
invariant-loop-at l = take l.at l.words ≡ take l.at l.whole
