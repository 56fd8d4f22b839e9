use Rattle.std.proofs.Common.{take}
use Rattle.af_session.proofs.Common.{All, IsFrame}
use Rattle.af_session.proofs.noting.know_frames.Given as goal

abbrev pub invariant-loop-i : goal.invariant-loop-i
invariant-loop-i l = All IsFrame (take l.i l.frames)
