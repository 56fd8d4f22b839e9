-- Words that lemmas alone speak of.
use Rattle.std.specs.Prelude.{ℕ, ◌*◌, ◌-◌, ◌≤◌, length, ◌&&◌, Bool, true, List, [], ◌∷◌, Option, ◌≡◌, not}
use Rattle.af_base.specs.Turn.{Turn}
use Rattle.af_life.specs.Kept.{track_in}
use Rattle.af_life.specs.Small.{most_tracks}
use Rattle.af_base.specs.declared.turn.CommandLook.{CommandLook}
use Rattle.af_life.specs.declared.kept.TrackKept.{TrackKept}
use Rattle.af_life.specs.Obeys.{after_look, goes_on}
use Rattle.af_life.specs.declared.state.LifeState.TheVariants.{Stopping1, Stopping2, Stopped, Flushed}
use Rattle.af_life.specs.declared.track.Life.{Life}
use Rattle.af_life.specs.State.{is_among}
use Rattle.af_life.specs.Drained.{LifeStep, StoppedAt, life_of, most_heard}

-- a drained life was stopped at a count that was reached, and not started since
abbrev pub IsDrainedBy : List LifeStep → Type 0
IsDrainedBy steps = (count : ℕ) × StoppedAt count steps × (count ≤ most_heard steps)

-- the life is on its way to a stop
abbrev pub is_stopping : Life → Bool
is_stopping life = is_among (Stopping1 ∷ []) life.state

-- the life is in a state in which no STOP has an effect
abbrev pub is_at_rest : Life → Bool
is_at_rest life = is_among (Stopping2 ∷ Stopped ∷ Flushed ∷ []) life.state

-- A life on its way to a stop, or drained, was stopped at its count and not started since; a drained life has reached its count, and is at rest
pub record DrainsInOrder (steps : List LifeStep) : Type 0 where
  pub stopping : is_stopping (life_of steps) ≡ true → StoppedAt (life_of steps).stop_at steps
  pub drained : (life_of steps).drained ≡ true → StoppedAt (life_of steps).stop_at steps × ((life_of steps).stop_at ≤ most_heard steps)
  pub at_rest : (life_of steps).drained ≡ true → is_at_rest (life_of steps) ≡ true

-- each of these looks goes on, so that the next one follows
abbrev pub all_go_on : Option ℕ → ℕ → List CommandLook → TrackKept → Bool
all_go_on given flush_seen [] s = true
all_go_on given flush_seen (look ∷ looks) s = let t = after_look given flush_seen look s in goes_on look t && all_go_on given flush_seen looks t

-- an entry with at most so many takes, and at most 64 looks at each track for each unit of a weight
pub record IsTurnUpTo (weight : ℕ) (e : Turn) : Type 0 where
  pub looks : (i : ℕ) → length (track_in e i).looks ≤ 64 * weight
  pub mixes : length e.mixes ≤ most_tracks

-- an entry that holds no more than a turn makes
abbrev pub IsSmallTurn : Turn → Type 0
IsSmallTurn e = IsTurnUpTo 1 e
