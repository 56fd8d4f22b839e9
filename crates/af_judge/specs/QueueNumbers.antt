-- The state queue by the numbers of its states: which order of both ends' steps is legal. Items follow the states.
use Rattle.std.specs.Prelude.{◌≡◌, ◌≢◌, ◌↔◌, ◌⊎◌, Some, slice_get, ℕ, ◌+◌, ◌-◌, ◌++◌, [], ◌∷◌, ◌<◌, ◌==◌, Bool, true, false, IsTrue, if◌then◌else◌, fold, List, length, take, slice_index_or}
use Rattle.af_base.specs.declared.state.Push.{Push}
use Rattle.af_base.specs.declared.state.Push.TheVariants as pushing
use Rattle.af_model.specs.Order.{Event, one, two}
use Rattle.af_judge.specs.declared.queue_judge.MutatorStep.{MutatorStep}
use Rattle.af_judge.specs.declared.queue_judge.MutatorStep.TheVariants as mutator
use Rattle.af_judge.specs.declared.queue_judge.ObserverStep.{ObserverStep}
use Rattle.af_judge.specs.declared.queue_judge.ObserverStep.TheVariants as observer
use Rattle.af_judge.specs.declared.queue_judge.MutatorNumbers.{MutatorNumbers}
use Rattle.af_judge.specs.declared.queue_judge.ObserverNumbers.{ObserverNumbers}
use Rattle.af_judge.specs.TwoEnds.{Ends, HasEndsOrder, AreOpen}

-- what both ends leave
abbrev pub Numbers : Type 0
Numbers = Ends MutatorNumbers ObserverNumbers

-- what the mutator leaves after one step more: a look tells whether the last state was acknowledged
abbrev pub mutator_after : MutatorNumbers → MutatorStep → MutatorNumbers
mutator_after m (mutator.Saw number) = record m { clear = number == m.pushed }
mutator_after m (mutator.Pushed number) = record { pushed = number; clear = false }

-- what the observer leaves after one step more: a state that is new to it is to be acknowledged
abbrev pub observer_after : ObserverNumbers → ObserverStep → ObserverNumbers
observer_after o (observer.Found number) = record o { due = if number == o.acked then 0 else number }
observer_after o (observer.Acknowledged number) = record { acked = number; due = 0 }

-- A state follows the last one pushed, once that was acknowledged and seen so; a look sees the last number; an acknowledgement follows the look that took its state
abbrev pub may_step : Numbers → Event MutatorStep ObserverStep → Type 0
may_step p (one (mutator.Saw number)) = number ≡ p.second.acked
may_step p (one (mutator.Pushed number)) = (number ≡ p.first.pushed + 1) × (p.second.acked ≡ p.first.pushed) × (p.first.clear ≡ true)
may_step p (two (observer.Found number)) = (number ≡ p.first.pushed) × (p.second.due ≡ 0)
may_step p (two (observer.Acknowledged number)) = (number ≡ p.second.due) × (number ≢ 0)

-- what the mutator's steps leave, and the observer's
abbrev pub mutated : MutatorNumbers → List MutatorStep → MutatorNumbers
mutated m steps = fold mutator_after m steps

abbrev pub observed : ObserverNumbers → List ObserverStep → ObserverNumbers
observed o looks = fold observer_after o looks

-- both halves as one
abbrev pub numbers : MutatorNumbers → ObserverNumbers → Numbers
numbers m o = record { first = m; second = o }

-- some order of these steps is legal after these numbers
abbrev pub HasStepOrder : MutatorNumbers → List MutatorStep → ObserverNumbers → List ObserverStep → Type 0
HasStepOrder m steps o looks = HasEndsOrder may_step mutator_after observer_after (numbers m o) steps looks

-- the counts of the mutator's steps that may have stood with all these steps of the observer
abbrev pub AreOpenCounts : MutatorNumbers → List MutatorStep → ObserverNumbers → List ObserverStep → List Bool → Type 0
AreOpenCounts m steps o looks counts = AreOpen may_step mutator_after observer_after (numbers m o) steps looks counts

-- an open count stays open if the observer's step is legal
abbrev pub Passes : MutatorNumbers → List MutatorStep → ObserverNumbers → ObserverStep → List Bool → List Bool → Type 0
Passes m steps o look before counts =
    (i : ℕ) → i < length before → IsTrue (slice_index_or counts i false) ↔ (IsTrue (slice_index_or before i false) × may_step (numbers (mutated m (take i steps)) o) (two look))

-- a count is opened if an open one leads to it by the mutator's next step
pub record Leads (m : MutatorNumbers) (steps : List MutatorStep) (o : ObserverNumbers) (before counts : List Bool) : Type 0 where
  pub first : slice_index_or counts 0 false ≡ slice_index_or before 0 false
  pub each : (i : ℕ) (step : MutatorStep) → slice_get steps i ≡ Some step
      → IsTrue (slice_index_or counts (i + 1) false) ↔ (IsTrue (slice_index_or before (i + 1) false) ⊎ (IsTrue (slice_index_or counts i false) × may_step (numbers (mutated m (take i steps)) o) (one step)))

-- ## What the ends do

-- what both ends left at their last meeting, and what they did since then
pub record QueueKept : Type 0 where
  pub mutator : MutatorNumbers
  pub observer : ObserverNumbers
  pub steps : List MutatorStep
  pub looks : List ObserverStep

-- a queue into which nothing was pushed
abbrev pub queue_begins : QueueKept
queue_begins = record { mutator = record { pushed = 0; clear = true }; observer = record { acked = 0; due = 0 }; steps = []; looks = [] }

-- a push after so many: a look if a push stands, and the next state
abbrev pub push_steps : ℕ → Push → List MutatorStep
push_steps last pushing.Clean = []
push_steps last (pushing.Busy seen expected) = mutator.Saw (last - 1) ∷ []
push_steps last (pushing.Pushed number) = (if last == 0 then [] else mutator.Saw last ∷ []) ++ mutator.Pushed number ∷ []

-- a turn after so many pushes: the look at the acknowledgement, and the push
abbrev pub turn_steps : ℕ → (ended ack : Bool) → Push → List MutatorStep
turn_steps last ended ack push = mutator.Saw (if ack then last else last - 1) ∷ (if ended then [] else push_steps last push)

-- a poll that finds a state, when another one was adopted
abbrev pub poll_steps : (current number : ℕ) → List ObserverStep
poll_steps current number = if number == current then observer.Found number ∷ [] else observer.Found number ∷ observer.Acknowledged number ∷ []

-- the mutator did these steps
abbrev pub with_steps : List MutatorStep → QueueKept → QueueKept
with_steps steps q = record q { steps = q.steps ++ steps }

-- the observer did these steps
abbrev pub with_looks : List ObserverStep → QueueKept → QueueKept
with_looks looks q = record q { looks = q.looks ++ looks }

-- the ends have a legal order since their last meeting
abbrev pub HasRoundOrder : QueueKept → Type 0
HasRoundOrder q = HasStepOrder q.mutator q.steps q.observer q.looks

-- the ends of the queue have met
abbrev pub met : QueueKept → QueueKept
met q = record { mutator = mutated q.mutator q.steps; observer = observed q.observer q.looks; steps = []; looks = [] }
