use Rattle.af_parties_law.proofs.SparedRuns.{plays_spare}
use Rattle.af_parties_law.proofs.sparing.a_play_spares_what_nobody_poked.Goals as goal

pub returns : goal.returns
returns c = plays_spare
