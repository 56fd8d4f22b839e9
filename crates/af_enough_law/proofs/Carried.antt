-- What is carried of the whole session from round to round, while some track still has a life.
use Rattle.std.proofs.Common.{◌≡◌, ◌≤◌, false, length}
use Rattle.af_enough_law.proofs.Common.{commands_exit, Run, fast_ended, Session, track_count, setup_of, cycle_frames, state_at}
use Rattle.af_enough_law.proofs.EndWords.{NoExits}
use Rattle.af_enough_law.proofs.Ends.{IsInOrder}
use Rattle.af_enough_law.proofs.FastWords.{KnowsStates, CountsStates, KnowsReports, CountsReports}
use Rattle.af_enough_law.proofs.Items.{AreItems}
use Rattle.af_enough_law.proofs.QueueRounds.{QueueStands}

-- what holds of a session before the first round too
pub record SessionStands (s : Session) (run : Run) : Type 0 where
  -- both mixers go on
  pub runs : run.normal.ended ≡ false
  pub going : fast_ended run ≡ false
  -- each track is there, in the run and in the mixer
  pub tracks : length run.tracks ≡ track_count s
  pub kept : length run.normal.tracks ≡ track_count s
  -- the slots, the draft and what is to be pushed fit together, and the draft has the item of each track whose proxy is away
  pub order : IsInOrder run.normal
  pub items : AreItems (setup_of s) run.normal
  -- the queue's two ends, and the last state pushed
  pub queue : QueueStands run
  pub last : state_at (cycle_frames s) run.states (length run.states) ≡ run.normal.last
  pub counts : CountsStates s run
  pub stored : CountsReports run
  -- one report for each entry, and no state is adopted that wasn't pushed
  pub logged : length run.reports ≡ length run.entries
  pub adopted : run.current ≤ length run.states
  -- no Exit was ordered or pushed
  pub draft_goes : commands_exit run.normal.draft ≡ false
  pub last_goes : commands_exit run.normal.last ≡ false
  pub exits : NoExits run.states

-- what holds once there was a meeting as well: each mixer knows what the other one did
pub record SessionCarried (s : Session) (run : Run) : Type 0 where
  pub stands : SessionStands s run
  pub states : KnowsStates s run
  pub reports : KnowsReports run
