-- When the parts of a track belong to the blocks of a run's links.
use Rattle.std.specs.Prelude.{◌≡◌, ℕ, ◌<◌, List, length, map, slice_get, Option, Some}
use Rattle.std.specs.List.{All}
use Rattle.af_base.specs.declared.turn.TrackTurn.{TrackTurn}
use Rattle.af_base.specs.Turn.{track_seen}
use Rattle.af_cblk.specs.Sides.{HandSide, hand_made}
use Rattle.af_server.specs.Order.{ServerState}
use Rattle.af_link.specs.Names.{IsStreamOf}
use Rattle.af_link.specs.declared.links.Links.{Links}
use Rattle.af_life.specs.Serves.{most_looks}
use Rattle.af_normal.specs.Mixing.{stream_at}
use Rattle.af_normal.specs.Serving.{Serving}
use Rattle.af_normal.specs.State.{NormalState}

-- the parts of a mixer that serve its tracks
abbrev pub serving_of : NormalState → Serving
serving_of m = record { tracks = m.tracks; streams = m.streams; commands = m.commands; hands = m.hands; turns = map track_seen m.entry.tracks.items }

-- The command proxy, the hand and, if it is home, the stream proxy of the track i are those of its two blocks
pub record AreOwn (links : Links) (streams : List (Option ServerState)) (commands : List ServerState) (hands : List HandSide) (i : ℕ) : Type 0 where
  pub blocks : (i < length links.commands.now) × (i < length links.streams.now)
  pub there : (i < length commands) × (i < length hands)
  pub command_is : (s : ServerState) → slice_get commands i ≡ Some s → IsStreamOf links.commands.now i s
  pub flag_is : (h : HandSide) → slice_get hands i ≡ Some h → slice_get links.streams.now i ≡ Some (hand_made h)
  pub stream_is : (s : ServerState) → stream_at streams i ≡ Some s → IsStreamOf links.streams.now i s

-- each record of a track has room for the looks of a turn
abbrev pub HaveRoom : List TrackTurn → Type 0
HaveRoom turns = All (λ t. t.looks.room ≡ most_looks) turns
