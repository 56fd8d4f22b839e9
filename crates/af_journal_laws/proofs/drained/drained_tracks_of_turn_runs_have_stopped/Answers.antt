use Rattle.af_journal_laws.proofs.drained.drained_tracks_of_turn_runs_have_stopped.Goals as goal
use Rattle.af_journal_laws.proofs.DrainedSoFar.{drained-so-far-alone}

pub returns : goal.returns
returns c = drained-so-far-alone c.a_drained_track_was_reached.ensures
