use Rattle.std.proofs.Common.{take}
use Rattle.af_session.proofs.Common.{All, IsFrame, NormalTake}
use Rattle.af_session.proofs.noting.know_takes.Given as goal

abbrev pub invariant-loop-i : goal.invariant-loop-i
invariant-loop-i l = All (λ (t : NormalTake). All IsFrame t.frames.items) (take l.i l.takes)
