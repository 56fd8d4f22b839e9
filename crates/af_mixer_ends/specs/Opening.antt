-- What the ends of a new mixer are.
use Rattle.std.specs.Prelude.{◌≡◌, ℕ, List, map, slice_get, Some}
use Rattle.af_engine.specs.declared.ends.TrackEnds.{TrackEnds}
use Rattle.af_engine.specs.declared.spec.MixerSpec.{MixerSpec}
use Rattle.af_engine.specs.Engines.{EngineState}
use Rattle.af_engine.specs.NewEngine.{IsNewEngine}
use Rattle.af_engine.specs.Shares.{SharedState}
use Rattle.af_mixer_ends.specs.Mixers.{FastEndState, IsFastEnd, IsNormalEnd, NormalEndState}
use Rattle.af_mixer_ends.specs.Tracks.{IsTrackEnd, TrackState}

-- the end of a track over what is shared
abbrev pub end_of : SharedState → TrackEnds → TrackState
end_of shared p = record { shared = shared; ends = p }

-- each of the tracks is in order over what is shared
abbrev pub AreTrackEnds : SharedState → List TrackEnds → Type 0
AreTrackEnds shared tracks = (i : ℕ) (p : TrackEnds) → slice_get tracks i ≡ Some p → IsTrackEnd shared p

-- all parts of a mixer are in order over what is shared, with so many frames a cycle and so many entries a log
pub record AreEnds (shared : SharedState) (frames cycles : ℕ) (e : EngineState) : Type 0 where
  pub normal : IsNormalEnd shared e.normal
  pub fast : IsFastEnd shared frames cycles e.fast
  pub tracks : AreTrackEnds shared e.tracks

-- each end has its part of a mixer, and all ends share the same
pub record Share (shared : SharedState) (e : EngineState) (normal : NormalEndState) (fast : FastEndState) (tracks : List TrackState) : Type 0 where
  pub normal_is : normal ≡ record { shared = shared; mixer = e.normal }
  pub fast_is : fast ≡ record { shared = shared; mixer = e.fast }
  pub tracks_are : tracks ≡ map (end_of shared) e.tracks

-- the ends share a new mixer of this spec
pub record IsOpened (spec : MixerSpec) (normal : NormalEndState) (fast : FastEndState) (tracks : List TrackState) : Type 0 where
  pub shared : SharedState
  pub engine : EngineState
  pub new : IsNewEngine spec shared engine
  pub share : Share shared engine normal fast tracks
