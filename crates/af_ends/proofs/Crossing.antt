-- What an `Exclusive` owns names no thread, if what it keeps may go to another thread.
use mathlib.Core.List.{List}
use mir.Val.{Val}
use base.Shift.{Keyless}
use denote.RattleType.{RattleType}
use denote.Param.Send.{IsSend}
use Rattle.af_ends.specs.contracts.exclusive.Exclusive.TheInside as inside

pub inside_keyless : (X : RattleType) → IsSend X → (a : (inside.the_row X).Denot) (vs : List Val) → Keyless ((inside.the_row X).own_val a vs)
inside_keyless X s a vs = ((λ vss. (tt, (s.owned a.value vss.0, tt))), tt)
