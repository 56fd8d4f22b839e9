-- What a new normal mixer is.
use Rattle.std.specs.Prelude.{◌≡◌, ℕ, ◌*◌, true, false, List, [], ◌∷◌, ◌++◌, length, replicate, slice_get, Option, Some}
use Rattle.af_base.specs.Turn.{ended_turn, turn_of}
use Rattle.af_server.specs.Order.{ServerState}
use Rattle.af_model.specs.Draft.{initial}
use Rattle.af_stateq.specs.Mutates.{Mutates, IsNewMutator}
use Rattle.af_link.specs.Linked.{AreLinked}
use Rattle.af_link.specs.Names.{IsStreamOf}
use Rattle.af_link.specs.PipeEnds.{InSide, in_made}
use Rattle.af_link.specs.Reports.{ReaderSide}
use Rattle.af_link.specs.declared.links.Links.{Links}
use Rattle.af_link.specs.declared.names.StreamNames.{StreamNames}
use Rattle.af_life.specs.declared.kept.Setting.{Setting}
use Rattle.af_life.specs.Kept.{new_track}
use Rattle.af_normal.specs.declared.make.TrackSetup.{TrackSetup}
use Rattle.af_normal.specs.AllMixed.{HasTakes}
use Rattle.af_normal.specs.Mixing.{stream_at}
use Rattle.af_normal.specs.Order.{HasTurns}
use Rattle.af_normal.specs.State.{NormalState}

-- the setting of a track
abbrev pub setting_of : TrackSetup → Setting
setting_of t = record { fast = t.fast; mono = t.mono; scale = t.scale }

-- what the tracks are, their stream proxies and their command proxies
pub record TrackList : Type 0 where
  pub settings : List Setting
  pub streams : List (Option ServerState)
  pub commands : List ServerState

-- a track joins behind the others
abbrev pub with_track : TrackSetup → TrackList → TrackList
with_track t l = record { settings = l.settings ++ setting_of t ∷ []; streams = l.streams ++ Some t.stream ∷ []; commands = l.commands ++ t.command ∷ [] }

-- The mixer was made of these tracks over these ends, and nothing was done since
pub record IsMade (frames normal : ℕ) (tracks : TrackList) (mutator : Mutates ServerState StreamNames) (reader : ReaderSide) (pipe : InSide) (m : NormalState) : Type 0 where
  pub is : m ≡ record {
    frames = frames;
    normal = normal;
    settings = tracks.settings;
    tracks = replicate (length tracks.settings) new_track;
    streams = tracks.streams;
    commands = tracks.commands;
    hands = [];
    mutator = mutator;
    reader = reader;
    pipe = pipe;
    entry = m.entry;
    spare_turns = m.spare_turns;
    spare_takes = m.spare_takes;
    ended = false;
    turns = 0;
  }
  pub entry : turn_of m.entry ≡ ended_turn
  pub turns : HasTurns (length tracks.settings) m.entry.tracks m.spare_turns
  pub takes : HasTakes (normal * frames) (length tracks.settings) m.entry.mixes m.spare_takes

-- Nothing was done on the ends, which are those of the links, and each proxy is of its track's block, the stream's still with its hand. The pipe holds four buffers
pub record AreNew (links : Links) (frames normal : ℕ) (tracks : TrackList) (mutator : Mutates ServerState StreamNames) (reader : ReaderSide) (pipe : InSide) : Type 0 where
  pub names : StreamNames
  pub mutator_is : IsNewMutator names (initial frames) mutator
  pub linked : AreLinked links mutator.past.key mutator.past.queue reader.cell (in_made pipe)
  pub streams_of : (i : ℕ) (s : ServerState) → stream_at tracks.streams i ≡ Some s → IsStreamOf links.streams.now i s
  pub hands_of : (i : ℕ) (s : ServerState) → stream_at tracks.streams i ≡ Some s → s.pass.has_hand ≡ true
  pub commands_of : (i : ℕ) (s : ServerState) → slice_get tracks.commands i ≡ Some s → IsStreamOf links.commands.now i s
  pub pipe_is : pipe.pass.part.shape.frames ≡ 4 * (normal * frames)
