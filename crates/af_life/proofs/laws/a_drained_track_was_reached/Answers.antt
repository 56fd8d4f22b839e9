use Rattle.af_life.proofs.laws.a_drained_track_was_reached.Goals as goal
use Rattle.af_life.proofs.Reached.{reached}

-- src/laws.rt:7:1
pub returns : goal.returns
returns c = reached
