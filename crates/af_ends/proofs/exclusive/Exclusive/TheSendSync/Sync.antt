-- Threads may share an `Exclusive` if what it keeps may go to another thread: a `&` to it holds a share of the whole value.
use denote.RattleType.{RattleType}
use denote.Param.Send.{IsSend, IsSync, whole-keyless}
use denote.Memory.{raw_all}
use Rattle.af_ends.proofs.Crossing.{inside_keyless}
use Rattle.af_ends.specs.contracts.exclusive.Exclusive.{the_row}
use Rattle.af_ends.specs.contracts.exclusive.Exclusive.TheInside as inside

pub sync : (X : RattleType) → IsSend X → IsSync (the_row X)
sync X s = record { shared = λ d b o κ a. ((λ q. whole-keyless (raw_all (inside.the_row X).mir) (inside.the_row X).own_val (inside_keyless X s) q a.0 b o), tt) }
