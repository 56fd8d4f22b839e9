-- What a round of all parties is by its journal.
use Rattle.std.specs.Prelude.{◌≡◌, ℕ, ◌<◌, true, false, List}
use Rattle.af_link.specs.declared.links.Links.{Links}
use Rattle.af_model.specs.Journals.{RoundSeen}
use Rattle.af_runs.specs.Blocks.{Marks, is_tame}
use Rattle.af_runs.specs.Rounds.{LegalRound, after_round, all_played}
use Rattle.af_runs.specs.Runs.{Run, all_ended, takes_part, told_at}
use Rattle.af_runs.specs.Sessions.{Session, track_count}
use Rattle.af_session.specs.Rounds.{with_ends}
use Rattle.af_session.specs.Together.{SessionState}
use Rattle.af_told_law.specs.Deeds.{Deeds, SawOwnBy, SawOwnOf}
use Rattle.af_told_law.specs.Tells.{Leaves}
use Rattle.af_play_law.specs.RoundPlayed.{PlayStands, RoundPlayed}

-- A round of all parties, from run and the servers' lists d to the session y: the run with it tells y, and if some party went on the round is legal by any marks on whose blocks each front seen is a server's own. Of each server that took part in the meetings each front that it saw is its own, if its client hadn't poked
pub record RoundIsTold (s : Session) (run : Run) (d : Deeds) (round : RoundSeen) (y : SessionState) : Type 0 where
  pub left : Leaves s d (after_round s run round) y
  pub legal : (marks : Marks) → all_ended s run ≡ false → SawOwnBy marks (all_played s run round) left.deeds → LegalRound true s marks run round
  pub streams : (i : ℕ) → i < track_count s → takes_part s (all_played s run round) i ≡ true → is_tame (told_at (all_played s run round) i).stream ≡ true → SawOwnOf (told_at (all_played s run round) i).stream.shape (left.deeds.streams i)
  pub commands : (i : ℕ) → i < track_count s → is_tame (told_at (all_played s run round) i).commands ≡ true → SawOwnOf (told_at (all_played s run round) i).commands.shape (left.deeds.commands i)

-- the round is told, and what stood before it stands again
pub record RoundStands (s : Session) (run : Run) (d : Deeds) (round : RoundSeen) (y : SessionState) : Type 0 where
  pub told : RoundIsTold s run d round y
  pub stands : PlayStands s (after_round s run round) told.left.deeds y

-- each round of all parties is told, and what stood before it stands again
abbrev pub RoundsAreTold : Session → Type 0
RoundsAreTold s = (links : Links) (run : Run) (d : Deeds) (x u z : SessionState) (bytes : List ℕ) (round : RoundSeen) → PlayStands s run d x → RoundPlayed links s x u z bytes round → RoundStands s run d round (with_ends z)
