-- The states of a track: their numbers in a status word, and the life that each track begins with.
use Rattle.std.specs.Prelude.{ℕ, Bool, false, List, [], ◌∷◌, ◌==◌, ◌||◌}
use Rattle.af_life.specs.declared.state.LifeState.{LifeState}
use Rattle.af_life.specs.declared.state.LifeState.TheVariants.{Absent, Idle, Active, Pausing, Paused, Resuming, Stopping1, Stopping2, Stopped, Flushed}
use Rattle.af_life.specs.declared.track.Life.{Life}

-- a state's number
abbrev pub life_code : LifeState → ℕ
life_code Absent = 0
life_code Idle = 1
life_code Active = 2
life_code Pausing = 3
life_code Paused = 4
life_code Resuming = 5
life_code Stopping1 = 6
life_code Stopping2 = 7
life_code Stopped = 8
life_code Flushed = 9

-- the state is one of these
abbrev pub is_among : List LifeState → LifeState → Bool
is_among [] state = false
is_among (one ∷ others) state = (life_code one == life_code state) || is_among others state

-- the life that each track begins with
abbrev pub new_life : Life
new_life = record { state = Absent; member = false; ended = false; drained = false; retries = 50; stop_at = 0 }
