-- What the parts of a track are before anything was done on them.
use Rattle.std.specs.Prelude.{◌≡◌, ℕ, ◌≤◌, ◌==◌, List, [], length, map, slice_get, Some}
use Rattle.af_base.specs.declared.frame.Frame.{Frame}
use Rattle.af_base.specs.Sample.{packed_word}
use Rattle.af_cblk.specs.Sides.{Made}
use Rattle.af_engine.specs.declared.ends.TrackEnds.{TrackEnds}
use Rattle.af_engine.specs.declared.spec.EngineTrack.{EngineTrack}
use Rattle.af_engine.specs.NewTracks.{AreNewTracks as AreTracks, IsNewClient, IsNewLine}
use Rattle.af_runs.specs.Clients.{new_client as new_wants}
use Rattle.af_runs.specs.ClientTurns.{Track, new_side}
use Rattle.af_runs.specs.Kept.{client_of}
use Rattle.af_runs.specs.Sessions.{command_shape, spec_setting, stream_shape}
use Rattle.af_normal.specs.Making.{TrackList, setting_of}
use Rattle.af_normal.specs.declared.make.TrackSetup.{TrackSetup}
use Rattle.af_script.specs.declared.op.Op.{Op}
use Rattle.af_script.specs.declared.track.TrackSpec.{TrackSpec}
use Rattle.af_party.specs.Parties.{PartyState, track_of}
use Rattle.af_party.specs.Works.{CanWork, frames_to_come}

-- a track of a script as a mixer sees it
abbrev pub engine_track : ℕ → TrackSpec → EngineTrack
engine_track version spec = record { fast = spec.fast; mono = spec.mono; positional = version == 2; scale = spec.scale; frames = spec.frames; base = spec.base }

-- the client has these ends, and has done nothing
pub record IsClientOf (ends : TrackEnds) (p : PartyState) : Type 0 where
  pub place : p.track ≡ ends.track
  pub stream : p.stream ≡ ends.stream
  pub command : p.command ≡ ends.command
  pub wants : (ops : List Op) → client_of ops p.client ≡ new_wants ops
  pub calls : p.calls ≡ record { items = []; room = 64 }

-- each client has the ends of its place
pub record AreNewClients (ends : List TrackEnds) (clients : List PartyState) : Type 0 where
  pub count : length clients ≡ length ends
  pub each : (i : ℕ) (e : TrackEnds) (p : PartyState) → slice_get ends i ≡ Some e → slice_get clients i ≡ Some p → IsClientOf e p

-- the track of a client that has done nothing, with the file of these frames
abbrev pub first_track : ℕ → TrackSpec → List Frame → Track
first_track version spec file = record { file = map packed_word file; client = new_wants spec.ops; stream = new_side (stream_shape version spec); commands = new_side command_shape }

-- The client of a track by its place, before its first turn: it has all of its ops to do, and can do the work that they ask for with any file that has the frames
pub record IsNewParty (version place : ℕ) (spec : TrackSpec) (p : PartyState) : Type 0 where
  pub place_is : p.track ≡ place
  pub wants : (ops : List Op) → client_of ops p.client ≡ new_wants ops
  pub stream : IsNewClient (stream_shape version spec) p.stream
  pub command : IsNewClient command_shape p.command
  pub calls : p.calls ≡ record { items = []; room = 64 }
  pub track : (file : List Frame) → track_of spec.ops file p ≡ first_track version spec file
  pub work : (frames : ℕ) → frames_to_come spec.ops ≤ frames → frames ≤ 4194304 → CanWork spec.ops frames p

-- the two blocks of a track by its place, its client, and what the normal mixer gets
pub record IsNewTrack (version place : ℕ) (spec : TrackSpec) (stream command : Made) (p : PartyState) (t : TrackSetup) : Type 0 where
  pub stream_line : IsNewLine (stream_shape version spec) stream p.stream t.stream
  pub command_line : IsNewLine command_shape command p.command t.command
  pub setting_is : setting_of t ≡ spec_setting spec
  pub party : IsNewParty version place spec p

-- the lists have the first tracks of so many, and no others
abbrev pub AreNewTracks : ℕ → ℕ → List TrackSpec → List Made → List Made → List PartyState → TrackList → Type 0
AreNewTracks version count specs streams commands clients tracks = AreTracks (IsNewTrack version) count specs streams commands clients tracks
