-- What each command makes of a life: a table of rows, of which the first that applies is taken.
use Rattle.std.specs.Prelude.{ℕ, Bool, true, false, not, List, [], ◌∷◌, ◌==◌, ◌&&◌, if◌then◌else◌}
use Rattle.af_life.specs.declared.state.LifeState.{LifeState}
use Rattle.af_life.specs.declared.state.LifeState.TheVariants.{Absent, Idle, Active, Pausing, Paused, Resuming, Stopping1, Stopping2, Stopped, Flushed}
use Rattle.af_life.specs.declared.track.Life.{Life}
use Rattle.af_life.specs.State.{is_among}

-- a row: the command, the states at which it applies, a further condition, and the life that it leaves (of argument and life)
pub record Row : Type 0 where
  pub command : ℕ
  pub states : List LifeState
  pub provided : Life → Bool
  pub effect : ℕ → Life → Life

-- a row of the table
abbrev pub row : ℕ → List LifeState → (Life → Bool) → (ℕ → Life → Life) → Row
row command states provided effect =
    record { command = command; states = states; provided = provided; effect = effect }

-- no further condition
abbrev pub anyway : Life → Bool
anyway life = true

-- the life in another state
abbrev pub in_state : LifeState → ℕ → Life → Life
in_state state argument life = record life { state = state }

-- the life in another state, in the mix, with all its retries, not drained
abbrev pub started_in : LifeState → ℕ → Life → Life
started_in state argument life = record life { state = state; member = true; drained = false; retries = 50 }

-- every state but Absent
abbrev pub opened : List LifeState
opened = Idle ∷ Active ∷ Pausing ∷ Paused ∷ Resuming ∷ Stopping1 ∷ Stopping2 ∷ Stopped ∷ Flushed ∷ []

-- the states that a stop ends
abbrev pub stoppable : List LifeState
stoppable = Active ∷ Resuming ∷ Pausing ∷ Paused ∷ []

-- The table: OPEN is 1, START 2, PAUSE 3, STOP 4, FLUSH 5 and REMOVE 6. A STOP in the mix drains first, at its argument; a REMOVE ends a life in every state
abbrev pub commands : List Row
commands =
    row 1 (Absent ∷ []) anyway (in_state Idle)
    ∷ row 2 (Paused ∷ []) anyway (started_in Resuming)
    ∷ row 2 opened anyway (started_in Active)
    ∷ row 3 (Active ∷ Resuming ∷ []) anyway (in_state Pausing)
    ∷ row 4 stoppable (λ life. life.member) (λ argument life. record life { state = Stopping1; stop_at = argument })
    ∷ row 4 stoppable (λ life. not life.member) (in_state Stopped)
    ∷ row 5 (Idle ∷ Pausing ∷ Paused ∷ Stopping1 ∷ Stopping2 ∷ Stopped ∷ Flushed ∷ []) anyway (in_state Flushed)
    ∷ row 6 (Absent ∷ opened) anyway (λ argument life. record life { ended = true })
    ∷ []

-- the row is of this command, and its states and its condition fit the life
abbrev pub applies : Row → ℕ → Life → Bool
applies row code life = (row.command == code) && (is_among row.states life.state && row.provided life)

-- the effect of the first row that applies; if none does, nothing changes
abbrev pub first_effect : List Row → ℕ → ℕ → Life → Life
first_effect [] code argument life = life
first_effect (row ∷ rows) code argument life =
    if applies row code life then row.effect argument life else first_effect rows code argument life

-- what a command makes of a life: nothing if it has ended, else the table's effect
unfoldable pub by_command : ℕ → ℕ → Life → Life
by_command code argument life = if life.ended then life else first_effect commands code argument life

-- the command is a START, of a life that is there and has not ended
unfoldable pub starts : ℕ → Life → Bool
starts code life = (code == 2) && (not life.ended && is_among opened life.state)
