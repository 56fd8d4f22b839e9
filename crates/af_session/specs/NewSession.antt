-- What a session is before its first turn.
use Rattle.std.specs.Prelude.{◌≡◌, length, map}
use Rattle.af_engine.specs.declared.spec.MixerSpec.{MixerSpec}
use Rattle.af_engine.specs.NewEnds.{AreNewEnds, ends_of}
use Rattle.af_engine.specs.Shares.{SharedState}
use Rattle.af_fast.specs.Mixer.{made_of}
use Rattle.af_life.specs.Kept.{new_normal}
use Rattle.af_normal.specs.Making.{TrackList, IsMade}
use Rattle.af_normal.specs.State.{NormalState, setup_of, kept_of}
use Rattle.af_script.specs.Data.{ScriptData}
use Rattle.af_session.specs.NewTracks.{AreNewTracks, engine_track}
use Rattle.af_runs.specs.Sessions.{script_setup, spec_setting}
use Rattle.af_session.specs.Together.{SessionState}

-- what a script asks of a mixer
pub record IsSpecOf (script : ScriptData) (spec : MixerSpec) : Type 0 where
  pub frames : spec.frames ≡ script.frames
  pub normal : spec.normal ≡ script.normal
  pub cycles : spec.cycles ≡ script.cycles
  pub tracks : spec.tracks.now ≡ map (engine_track script.version) script.tracks

-- what the tracks of a script are, and the proxies that the normal mixer has for them
abbrev pub tracks_of : ScriptData → NormalState → TrackList
tracks_of script m = record { settings = map spec_setting script.tracks; streams = m.streams; commands = m.commands }

-- A session of a script before its first turn, over these shared objects
pub record IsNewSession (script : ScriptData) (shared : SharedState) (s : SessionState) : Type 0 where
  pub tracks : AreNewTracks script.version (length script.tracks) script.tracks shared.streams shared.commands s.clients (tracks_of script s.normal)
  pub ends : AreNewEnds script.frames script.normal shared (ends_of s.normal s.fast)
  pub normal : IsMade script.frames script.normal (tracks_of script s.normal) s.normal.mutator s.normal.reader s.normal.pipe s.normal
  pub setup : setup_of s.normal ≡ script_setup script
  pub kept : kept_of s.normal ≡ new_normal (script_setup script)
  pub fast : s.fast ≡ made_of s.fast.observer s.fast.writer s.fast.pipe script.cycles script.frames
