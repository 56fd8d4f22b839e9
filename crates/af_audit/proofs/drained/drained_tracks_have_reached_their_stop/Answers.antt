use Rattle.af_audit.proofs.DrainedTold.{drained}
use Rattle.af_audit.proofs.drained.drained_tracks_have_reached_their_stop.Goals as goal

pub returns : goal.returns
returns c = drained c.a_drained_track_was_reached.ensures
