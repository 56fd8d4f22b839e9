-- Which tracks the slots of states lead to, and what the two ends of the queue know of each other between two rounds.
use Rattle.std.specs.Prelude.{◌≡◌, ◌⊎◌, ℕ, ◌<◌, ◌≤◌, ◌++◌, true, false, List, [], ◌∷◌, length}
use Rattle.std.specs.List.{list_any}
use Rattle.af_base.specs.declared.state.FastState.{FastState}
use Rattle.af_base.specs.Log.{slots}
use Rattle.af_life.specs.declared.kept.TrackKept.{TrackKept}
use Rattle.af_life.specs.Kept.{NormalKept, is_home, is_lent, slot_number, track_at}
use Rattle.af_link.specs.declared.names.StreamNames.{StreamNames}
use Rattle.af_model.specs.declared.states.MutatorEvent.{MutatorEvent}
use Rattle.af_model.specs.declared.states.ObserverEvent.{ObserverEvent}
use Rattle.af_model.specs.declared.states.ObserverEvent.TheVariants as observer
use Rattle.af_model.specs.StateQueue.{carries, mutated, slot_of}
use Rattle.af_server.specs.Order.{ServerState}
use Rattle.af_stateq.specs.Ends.{Polls, Pushes}
use Rattle.af_stateq.specs.Laws.{is_push}

-- each slot that a state carries leads to a track that has it and whose proxy isn't home
abbrev pub LeadAway : FastState → List TrackKept → Type 0
LeadAway x tracks = (k : ℕ) → k < slots → carries x k ≡ true → (is_home (track_at tracks (slot_of x k).track).holder ≡ false) × (slot_number (track_at tracks (slot_of x k).track) ≡ k)

-- each slot that a state carries leads to a track that has it and is lent
abbrev pub LeadLent : FastState → List TrackKept → Type 0
LeadLent x tracks = (k : ℕ) → k < slots → carries x k ≡ true → (is_lent (track_at tracks (slot_of x k).track).holder ≡ true) × (slot_number (track_at tracks (slot_of x k).track) ≡ k)

-- the slots of the draft lead to tracks that are lent. Those of the last state pushed, and those of the state x, lead to tracks whose proxies are away
pub record Leads (x : FastState) (m : NormalKept) : Type 0 where
  pub draft : LeadLent m.draft m.tracks
  pub last : LeadAway m.last m.tracks
  pub state : LeadAway x m.tracks

-- the observer learnt of all states that were pushed, and did nothing after that
pub record HasLearnt (ms : List (MutatorEvent ServerState)) (os : List (ObserverEvent ServerState)) : Type 0 where
  pub told : List (MutatorEvent ServerState)
  pub more : List (MutatorEvent ServerState)
  pub before : List (ObserverEvent ServerState)
  pub count : ℕ
  pub parts : ms ≡ told ++ more
  pub none_pushed : list_any is_push more ≡ false
  pub learnt : os ≡ before ++ observer.Learn count ∷ []
  pub enough : length told ≤ count

-- what the mutator keeps of its pushes is what its list says
pub record Tells (m : Pushes ServerState StreamNames) : Type 0 where
  pub pushed : (first : FastState) → (mutated first m.events).pushed ≡ m.number
  pub last : 0 < m.number → (first : FastState) → (mutated first m.events).last ≡ m.last

-- The observer has polled no more states than were pushed. If it has polled as many, it has the last of them. It has learnt of all pushes, or there is none
pub record InStep (m : Pushes ServerState StreamNames) (o : Polls ServerState StreamNames) : Type 0 where
  pub tells : Tells m
  pub few : o.number ≤ m.number
  pub same : 0 < m.number → o.number ≡ m.number → o.state ≡ m.last
  pub knows : (m.number ≡ 0) ⊎ HasLearnt m.events o.events
