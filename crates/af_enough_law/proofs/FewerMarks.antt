-- A round that is legal by some marks is legal by marks that call fewer blocks lawful.
use Rattle.af_enough_law.proofs.Common.{AreFewer, Bool, LegalRound, Marks, RoundSeen, Run, Session, [], rounds-fewer}
use Rattle.std.specs.Prelude.{◌∷◌}

pub legal_for_less : (cut : Bool) (s : Session) (marks fewer : Marks) (run : Run) (round : RoundSeen) → AreFewer marks fewer → LegalRound cut s marks run round → LegalRound cut s fewer run round
legal_for_less cut s marks fewer run round few legal = (rounds-fewer cut s marks fewer run (round ∷ []) few (legal, tt)).0
