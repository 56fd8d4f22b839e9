use Rattle.af_latest.proofs.NeverFalls.{never_older}
use Rattle.af_latest.proofs.laws.loads_never_fall.Goals as goal

pub returns : goal.returns
returns g c first ws rs h = never_older first ws rs h
