-- How many tracks a state has.
use Rattle.std.specs.Prelude.{ℕ, zero, suc, ◌+◌, if◌then◌else◌}
use Rattle.af_base.specs.declared.state.FastState.{FastState}
use Rattle.af_base.specs.Log.{slots}
use Rattle.af_model.specs.StateQueue.{carries}

-- how many of the first slots have a track
abbrev pub tracks_below : FastState → ℕ → ℕ
tracks_below x zero = 0
tracks_below x (suc i) = tracks_below x i + (if carries x i then 1 else 0)

-- how many tracks a state has: one for each slot of its mask but the submix
unfoldable pub tracks_of : FastState → ℕ
tracks_of x = tracks_below x slots
