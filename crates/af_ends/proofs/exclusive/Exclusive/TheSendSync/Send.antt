-- An `Exclusive` may go to another thread, as what it keeps may.
use denote.RattleType.{RattleType}
use denote.Param.Send.{IsSend}
use Rattle.af_ends.proofs.Crossing.{inside_keyless}
use Rattle.af_ends.specs.contracts.exclusive.Exclusive.{the_row}

pub send : (X : RattleType) → IsSend X → IsSend (the_row X)
send X s = record { owned = λ d vs a. (inside_keyless X s a.0 vs, tt); leaving = λ k d w. tt }
