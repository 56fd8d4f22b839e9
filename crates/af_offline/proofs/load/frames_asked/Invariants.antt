use Rattle.std.proofs.Common.{◌≡◌, ◌≤◌, ◌*◌, take}
use Rattle.af_offline.proofs.Common.{frames_to_come}
use Rattle.af_offline.proofs.load.frames_asked.Given as goal

abbrev pub invariant-loop-i : goal.invariant-loop-i
invariant-loop-i l = record { asked : l.asked ≡ frames_to_come (take l.i l.ops); few : l.asked ≤ l.i * 4294967296 }
