-- What the two ends of the queue and the slots of states are between two rounds, and before a turn of the normal mixer.
use Rattle.af_model.specs.StateQueue.{HasStateHistory}
use Rattle.af_normal.specs.State.{kept_of}
use Rattle.af_told_law.specs.Leads.{InStep, Leads}
use Rattle.af_session.specs.Together.{SessionState}
use Rattle.af_told_law.specs.Leads as leads
use Rattle.af_stateq.specs.Ends.{Polls, Pushes}
use Rattle.af_server.specs.Order.{ServerState}
use Rattle.std.specs.List.{AllByRecursion}
use Rattle.std.specs.Prelude.{◌<◌, ◌≡◌, ◌≤◌, true, false}
use Rattle.af_audit.proofs.DoneTracks.{IsDone}
use Rattle.af_life.specs.Edits.{commands_exit}
use Rattle.af_life.specs.Kept.{NormalKept}
use Rattle.af_link.specs.declared.names.StreamNames.{StreamNames}

-- a draft that says Exit has only tracks that are done with, and after a push of an Exit there is nothing to push
pub record IsQuiet (m : NormalKept) : Type 0 where
  pub over : commands_exit m.draft ≡ true → AllByRecursion IsDone m.tracks
  pub rests : commands_exit m.last ≡ true → (m.dirty ≡ false) × (commands_exit m.draft ≡ true)

-- the queue's ends are in step, their lists have a history, and the slots of states lead to tracks whose proxies are away. Once the draft says Exit all tracks are done with
pub record StandsBetween (x : SessionState) : Type 0 where
  pub step : InStep x.normal.mutator.past x.fast.observer.past
  pub history : HasStateHistory x.normal.mutator.past.first x.normal.mutator.past.events x.fast.observer.past.events
  pub leads : Leads x.fast.observer.past.state (kept_of x.normal)
  pub quiet : IsQuiet (kept_of x.normal)

-- What the mutator keeps of its pushes is what its list tells. The observer has polled no more states than were pushed, and if it has polled as many, it has the last of them
pub record InReach (m : Pushes ServerState StreamNames) (o : Polls ServerState StreamNames) : Type 0 where
  pub tells : leads.Tells m
  pub few : o.number ≤ m.number
  pub same : 0 < m.number → o.number ≡ m.number → o.state ≡ m.last

-- a session whose ends haven't met since the observer polled: the observer is in reach of the mutator, their lists have a history, and the slots of states lead to tracks whose proxies are away. Once the draft says Exit all tracks are done with
pub record StandsBefore (x : SessionState) : Type 0 where
  pub step : InReach x.normal.mutator.past x.fast.observer.past
  pub history : HasStateHistory x.normal.mutator.past.first x.normal.mutator.past.events x.fast.observer.past.events
  pub leads : Leads x.fast.observer.past.state (kept_of x.normal)
  pub quiet : IsQuiet (kept_of x.normal)
