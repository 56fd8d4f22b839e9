-- What a history says of the frames.
use Rattle.std.specs.Prelude.{◌≡◌, ◌≤◌, Bool, true, false, ◌&&◌, List, [], ◌∷◌}
use Rattle.af_base.specs.declared.event.ServerEvent.{ServerEvent}
use Rattle.af_base.specs.declared.event.ServerEvent.TheVariants as server
use Rattle.af_model.specs.declared.point.TrackPoint.{TrackPoint}
use Rattle.af_model.specs.declared.shape.Shape.{Shape}

abbrev pub keeps_all : ServerEvent → Bool
keeps_all (server.Drop to) = false
keeps_all _ = true

-- nothing was dropped
abbrev pub drops_none : List ServerEvent → Bool
drops_none [] = true
drops_none (e ∷ es) = keeps_all e && drops_none es

-- Positions of a block of this shape never pass one another. For wrap 0 no more is consumed than the last rear showed
pub record InTurn (k : Shape) (p : TrackPoint) : Type 0 where
  pub wrap_is : p.wrap ≡ k.wrap
  pub from_base : k.base ≤ p.consumed
  pub within : p.consumed ≤ p.released
  pub to_released : p.rear_seen ≤ p.released
  pub flush_released : p.flush_at ≤ p.released
  pub drop_flushed : p.drop_to ≤ p.flush_at
  pub to_seen : k.wrap ≡ 0 → p.consumed ≤ p.rear_seen
