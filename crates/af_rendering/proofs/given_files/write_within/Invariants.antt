use Rattle.std.proofs.Common.{◌≡◌, ◌+◌, take}
use Rattle.af_rendering.proofs.Common.{frames_to_come}
use Rattle.af_rendering.proofs.given_files.write_within.Given as goal

abbrev pub invariant-loop-i : goal.invariant-loop-i
invariant-loop-i l = frames_to_come (take l.i l.ops) + l.left ≡ l.most
