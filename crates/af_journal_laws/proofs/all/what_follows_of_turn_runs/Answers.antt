use Rattle.af_journal_laws.proofs.all.what_follows_of_turn_runs.Goals as goal
use Rattle.af_journal_laws.proofs.AllHolds.{holds-at-meetings-alone}

pub returns : goal.returns
returns c = holds-at-meetings-alone c.drained_tracks_of_turn_runs_have_stopped.ensures
