use Rattle.af_journal_laws.proofs.drained.drained_tracks_have_stopped.Goals as goal
use Rattle.af_journal_laws.proofs.DrainedSoFar.{drained-so-far}

pub returns : goal.returns
returns c = drained-so-far c.a_drained_track_was_reached.ensures
