-- What the parts of a track are before anything was done on them.
use Rattle.std.specs.Prelude.{◌≡◌, ℕ, ◌*◌, ◌<◌, true, if◌then◌else◌, List, length, slice_get, Some, None}
use Rattle.af_cblk.specs.Rule.{new_client, new_server}
use Rattle.af_cblk.specs.Shape.{IsShape}
use Rattle.af_cblk.specs.Sides.{Made}
use Rattle.af_client.specs.Order.{ClientState, IsClientOf}
use Rattle.af_server.specs.Order.{ServerState, IsServerOf}
use Rattle.af_model.specs.declared.shape.Shape.{Shape}
use Rattle.af_normal.specs.Making.{TrackList, setting_of as setting_in}
use Rattle.af_normal.specs.Mixing.{stream_at}
use Rattle.af_normal.specs.declared.make.TrackSetup.{TrackSetup}
use Rattle.af_engine.specs.declared.ends.TrackEnds.{TrackEnds}
use Rattle.af_engine.specs.declared.spec.EngineTrack.{EngineTrack}
use Rattle.af_engine.specs.MixerSpecs.{setting_of}

-- ## One block

-- nothing was done by a client on a block of these sizes
pub record IsNewClient (shape : Shape) (c : ClientState) : Type 0 where
  pub part : c.pass.part ≡ new_client shape
  pub kept : (c.flushes ≡ 0) × (c.released ≡ 0) × (c.shut ≡ None)

-- nothing was done by a server on a block of these sizes, and its hand wasn't split off
pub record IsNewServer (shape : Shape) (s : ServerState) : Type 0 where
  pub part : s.pass.part ≡ new_server shape
  pub kept : (s.flush ≡ 0) × (s.flushes ≡ 0) × (s.consumed ≡ 0) × (s.shown ≡ None) × (s.shut ≡ None)
  pub whole : s.pass.has_hand ≡ true

-- a block of these sizes with its client and its server, on which nothing was done
pub record IsNewLine (shape : Shape) (block : Made) (c : ClientState) (s : ServerState) : Type 0 where
  pub shape_is : block.shape ≡ shape
  pub sound : IsShape shape
  pub client_is : IsClientOf block c
  pub server_is : IsServerOf block s
  pub client_new : IsNewClient shape c
  pub server_new : IsNewServer shape s

-- ## One track

-- the sizes of a track's stream block: if its flush words carry positions they wrap at four times the cells
pub record IsStreamShape (t : EngineTrack) (shape : Shape) : Type 0 where
  pub frames : shape.frames ≡ t.frames
  pub base : shape.base ≡ t.base
  pub wrap : shape.wrap ≡ (if t.positional then shape.cells * 4 else 0)
  pub sound : IsShape shape

-- the sizes of each command block: it has room for 64 commands of two words
pub record IsCommandShape (shape : Shape) : Type 0 where
  pub frames : shape.frames ≡ 128
  pub base : shape.base ≡ 0
  pub wrap : shape.wrap ≡ 0
  pub sound : IsShape shape

-- a new track: its two blocks by its place, the ends of its client, and what the normal mixer gets
pub record IsNewTrack (place : ℕ) (spec : EngineTrack) (stream command : Made) (ends : TrackEnds) (setup : TrackSetup) : Type 0 where
  pub place_is : ends.track ≡ place
  pub stream_shape : IsStreamShape spec stream.shape
  pub stream_line : IsNewLine stream.shape stream ends.stream setup.stream
  pub command_shape : IsCommandShape command.shape
  pub command_line : IsNewLine command.shape command ends.command setup.command
  pub setting_is : setting_in setup ≡ setting_of spec

-- ## All tracks

-- In each list the track of a place has its part at that place, and together they are a new track, as New says of a spec, its blocks, its client and its setup
pub record IsTrackAt {S P : Type 0} (New : ℕ → S → Made → Made → P → TrackSetup → Type 0) (place : ℕ) (specs : List S) (streams commands : List Made) (clients : List P) (tracks : TrackList) : Type 0 where
  pub spec : S
  pub stream : Made
  pub command : Made
  pub party : P
  pub setup : TrackSetup
  pub spec_at : slice_get specs place ≡ Some spec
  pub stream_at_place : slice_get streams place ≡ Some stream
  pub command_at : slice_get commands place ≡ Some command
  pub party_at : slice_get clients place ≡ Some party
  pub setting_at : slice_get tracks.settings place ≡ Some (setting_in setup)
  pub proxy_at : stream_at tracks.streams place ≡ Some setup.stream
  pub control_at : slice_get tracks.commands place ≡ Some setup.command
  pub new : New place spec stream command party setup

-- the lists hold the tracks of the first `count` places, and no others
pub record AreNewTracks {S P : Type 0} (New : ℕ → S → Made → Made → P → TrackSetup → Type 0) (count : ℕ) (specs : List S) (streams commands : List Made) (clients : List P) (tracks : TrackList) : Type 0 where
  pub blocks : (length streams ≡ count) × (length commands ≡ count)
  pub parties : length clients ≡ count
  pub lists : (length tracks.settings ≡ count) × (length tracks.streams ≡ count) × (length tracks.commands ≡ count)
  pub each : (i : ℕ) → i < count → IsTrackAt New i specs streams commands clients tracks
