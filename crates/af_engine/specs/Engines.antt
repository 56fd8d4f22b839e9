-- The ends of a mixer, and when they belong together.
use Rattle.std.specs.Prelude.{◌≡◌, ℕ, List, length, slice_get, Some}
use Rattle.af_fast.specs.Mixer.{MixerState, IsLinked, IsInOrder as IsFastInOrder}
use Rattle.af_link.specs.declared.links.Links.{Links}
use Rattle.af_normal.specs.Meeting.{AreClientsOf}
use Rattle.af_normal.specs.Order.{IsInOrder as IsNormalInOrder}
use Rattle.af_normal.specs.State.{NormalState}
use Rattle.af_engine.specs.declared.ends.TrackEnds.{TrackEnds}

-- the ends of a mixer: those of the clients in order of tracks, the normal mixer and the fast mixer
pub record EngineState : Type 0 where
  pub tracks : List TrackEnds
  pub normal : NormalState
  pub fast : MixerState

-- The mixers are in order over these links, and the client of each track has the proxies of its two blocks, in order
pub record AreTogether (links : Links) (e : EngineState) : Type 0 where
  pub normal : IsNormalInOrder links e.normal
  pub fast : IsFastInOrder e.fast × IsLinked links e.fast
  pub count : length e.tracks ≡ length e.normal.tracks
  pub tracks : (i : ℕ) (p : TrackEnds) → slice_get e.tracks i ≡ Some p → p.track ≡ i
  pub clients : (i : ℕ) (p : TrackEnds) → slice_get e.tracks i ≡ Some p → AreClientsOf links i p.stream p.command
