use Rattle.af_journal_laws.proofs.all.what_follows_of_rounds.Goals as goal
use Rattle.af_journal_laws.proofs.AllHolds.{holds-at-meetings}

pub returns : goal.returns
returns c = holds-at-meetings c.drained_tracks_have_stopped.ensures
