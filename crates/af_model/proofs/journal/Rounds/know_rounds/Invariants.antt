use Rattle.std.proofs.Common.{take}
use Rattle.af_model.proofs.Common.{All}
use Rattle.af_model.proofs.NumbersFit.{FitsNoted}
use Rattle.af_model.proofs.journal.Rounds.know_rounds.Given as goal

abbrev pub invariant-loop-i : goal.invariant-loop-i
invariant-loop-i l = All FitsNoted (take l.i l.self.rounds)
