-- What both ends of the state queue did between two meetings, by the numbers of the states: which states and items their events have.
use Rattle.std.specs.Prelude.{◌≡◌, ◌≢◌, ℕ, ◌+◌, ◌-◌, ◌<◌, ◌≤◌, ◌==◌, ◌&&◌, ◌||◌, not, Bool, true, false, if◌then◌else◌, List, [], ◌∷◌, Some, None}
use Rattle.af_base.specs.declared.state.FastState.{FastState}
use Rattle.af_model.specs.declared.states.MutatorEvent.{MutatorEvent}
use Rattle.af_model.specs.declared.states.MutatorEvent.TheVariants as mutator
use Rattle.af_model.specs.declared.states.ObserverEvent.{ObserverEvent}
use Rattle.af_model.specs.declared.states.ObserverEvent.TheVariants as observer
use Rattle.af_model.specs.StateQueue.{IsState, QueuePoint, slots, carries, slot_of}
use Rattle.af_runs.specs.Told.{Item, items_of}
use Rattle.af_judge.specs.declared.queue_judge.MutatorStep.{MutatorStep}
use Rattle.af_judge.specs.declared.queue_judge.MutatorStep.TheVariants as steps
use Rattle.af_judge.specs.declared.queue_judge.ObserverStep.{ObserverStep}
use Rattle.af_judge.specs.declared.queue_judge.ObserverStep.TheVariants as looks
use Rattle.af_judge.specs.QueueNumbers.{Numbers}

-- the states by their numbers follow one another: a slot that two neighbours carry is the same in both
pub record Follow (state : ℕ → FastState) : Type 0 where
  pub states : (k : ℕ) → IsState (state k)
  pub same : (k i : ℕ) → i < slots → carries (state (k + 1)) i ≡ true → carries (state k) i ≡ true → slot_of (state (k + 1)) i ≡ slot_of (state k) i

module _ (state : ℕ → FastState) where
  -- The mutator's events and their steps, after so many states were pushed and the last was seen acknowledged or not: the first look that sees it so brings the items that went off with it
  abbrev pub TellsSteps : ℕ → Bool → List (MutatorEvent Item) → List MutatorStep → Type 0
  TellsSteps pushed seen [] [] = Unit {0}
  TellsSteps pushed seen (mutator.SawAck a items ∷ es) (steps.Saw number ∷ ss) =
      (a ≡ number) × (items ≡ (if (a == pushed) && not seen then items_of (state (pushed - 1)) (state pushed) else [])) × TellsSteps pushed (seen || (a == pushed)) es ss
  TellsSteps pushed seen (mutator.Push k x items ∷ es) (steps.Pushed number ∷ ss) =
      (k ≡ number) × (x ≡ state (pushed + 1)) × (items ≡ items_of (state (pushed + 1)) (state pushed)) × TellsSteps (pushed + 1) false es ss
  TellsSteps pushed seen _ _ = ⊥

  -- the observer's events and their steps, when it has the state of a number
  abbrev pub TellsLooks : ℕ → List (ObserverEvent Item) → List ObserverStep → Type 0
  TellsLooks current [] [] = Unit {0}
  TellsLooks current (observer.SawNext k x items ∷ es) (looks.Found number ∷ ls) =
      (k ≡ number) × (x ≡ (if k == current then None else Some (state k))) × (items ≡ (if k == current then [] else items_of (state k) (state current))) × TellsLooks current es ls
  TellsLooks current (observer.Ack k items ∷ es) (looks.Acknowledged number ∷ ls) =
      (k ≡ number) × (items ≡ items_of (state current) (state k)) × TellsLooks k es ls
  TellsLooks current _ _ = ⊥

  -- a point of the queue is that of these numbers, with the last state seen acknowledged or not, and the observer having the state of a number
  pub record Fits (q : QueuePoint Item) (n : Numbers) (seen : Bool) (current : ℕ) : Type 0 where
    pub pushed : q.mutator.pushed ≡ n.first.pushed
    pub clear : q.mutator.clear ≡ n.first.clear
    pub acked : q.observer.acked ≡ n.second.acked
    pub due : q.observer.due ≡ n.second.due
    pub last : q.mutator.last ≡ state n.first.pushed
    pub before : 1 ≤ n.first.pushed → q.mutator.before ≡ state (n.first.pushed - 1)
    pub items : 1 ≤ n.first.pushed → q.mutator.items ≡ items_of (state n.first.pushed) (state (n.first.pushed - 1))
    pub given : 1 ≤ n.second.acked → q.observer.given ≡ items_of (state (n.second.acked - 1)) (state n.second.acked)
    pub low : n.second.acked ≤ n.first.pushed
    pub high : n.first.pushed ≤ n.second.acked + 1
    pub seen_is : seen ≡ n.first.clear
    pub clear_is : n.first.clear ≡ true → n.second.acked ≡ n.first.pushed
    pub some : n.first.clear ≡ false → 1 ≤ n.first.pushed
    pub has_current : current ≡ n.second.acked
    pub due_is : n.second.due ≢ 0 → (n.second.due ≡ n.first.pushed) × (n.second.acked + 1 ≡ n.first.pushed)
