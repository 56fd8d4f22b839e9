use Rattle.std.proofs.Common.{sym, ap}
use Rattle.af_fast.proofs.Common.{cold_of}
use Rattle.af_fast.proofs.LentState.{none_now}
use Rattle.af_fast.proofs.current.cold_now.Goals as goal

pub returns-in-None : goal.returns-in-None
returns-in-None c = sym (ap cold_of (none_now c.args.observer.now c.requires c.in-None.ensures))

pub returns-in-Some : goal.returns-in-Some
returns-in-Some c = sym (ap cold_of c.in-Some.ensures.2)
