-- What the ends of a mixer are before anything was done on them.
use Rattle.std.specs.Prelude.{◌≡◌, length, map}
use Rattle.af_fast.specs.Mixer.{made_of}
use Rattle.af_life.specs.Kept.{new_normal}
use Rattle.af_normal.specs.Making.{TrackList, IsMade}
use Rattle.af_normal.specs.State.{NormalState, setup_of as setup_in, kept_of}
use Rattle.af_engine.specs.declared.spec.MixerSpec.{MixerSpec}
use Rattle.af_engine.specs.Engines.{EngineState}
use Rattle.af_engine.specs.MixerSpecs.{setting_of, setup_of}
use Rattle.af_engine.specs.NewEnds.{AreNewEnds, ends_of}
use Rattle.af_engine.specs.NewTracks.{AreNewTracks, IsNewTrack}
use Rattle.af_engine.specs.Shares.{SharedState}

-- what the tracks of a spec are, and the proxies that the normal mixer has
abbrev pub tracks_of : MixerSpec → NormalState → TrackList
tracks_of spec m = record { settings = map setting_of spec.tracks.now; streams = m.streams; commands = m.commands }

-- The ends of a mixer of this spec over these shared objects, on which nothing was done
pub record IsNewEngine (spec : MixerSpec) (shared : SharedState) (e : EngineState) : Type 0 where
  pub tracks : AreNewTracks IsNewTrack (length spec.tracks.now) spec.tracks.now shared.streams shared.commands e.tracks (tracks_of spec e.normal)
  pub ends : AreNewEnds spec.frames spec.normal shared (ends_of e.normal e.fast)
  pub normal : IsMade spec.frames spec.normal (tracks_of spec e.normal) e.normal.mutator e.normal.reader e.normal.pipe e.normal
  pub setup : setup_in e.normal ≡ setup_of spec
  pub kept : kept_of e.normal ≡ new_normal (setup_of spec)
  pub fast : e.fast ≡ made_of e.fast.observer e.fast.writer e.fast.pipe spec.cycles spec.frames
