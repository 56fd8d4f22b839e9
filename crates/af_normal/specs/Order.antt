-- When a normal mixer is in order, over the links of a run.
use Rattle.std.specs.Prelude.{◌≡◌, ℕ, ◌+◌, ◌<◌, ◌≤◌, Bool, true, false, is_some, List, [], length, slice_get, Option, Some, All}
use Rattle.af_base.specs.declared.turn.TrackTurn.{TrackTurn}
use Rattle.af_base.specs.Log.{slots}
use Rattle.af_base.specs.Roomy.{Roomy}
use Rattle.af_cblk.specs.Sides.{Made, HandSide, hand_made}
use Rattle.af_server.specs.Order.{ServerState}
use Rattle.af_model.specs.StateQueue.{slot_of}
use Rattle.af_stateq.specs.Mutates.{is_out}
use Rattle.af_link.specs.Linked.{AreLinked}
use Rattle.af_link.specs.Names.{IsStreamOf}
use Rattle.af_link.specs.PipeEnds.{in_made}
use Rattle.af_link.specs.declared.links.Links.{Links}
use Rattle.af_life.specs.declared.kept.TrackKept.{TrackKept}
use Rattle.af_life.specs.Kept.{Setup, asked, pipe_size, track_at, is_home, slot_number}
use Rattle.af_life.specs.Small.{AreUpTo, IsSmall, most_tracks}
use Rattle.af_life.specs.Sound.{IsSound}
use Rattle.af_normal.specs.AllMixed.{HasTakes}
use Rattle.af_normal.specs.Mixing.{stream_at}
use Rattle.af_normal.specs.Ready.{HaveRoom}
use Rattle.af_normal.specs.State.{NormalState, setup_of, kept_of}

-- Of so many tracks, stream proxies and command proxies, and a pipe of so many frames: a buffer has frames, each track has its parts and its two blocks, the pipe holds four buffers, and no scale is above 1
pub record HasSizes (links : Links) (c : Setup) (tracks streams commands pipe : ℕ) : Type 0 where
  pub frames : (1 ≤ c.frames) × (c.frames ≤ 1024)
  pub normal : (1 ≤ c.normal) × (c.normal ≤ 16)
  pub few : tracks ≤ most_tracks
  pub settings : length c.settings ≡ tracks
  pub streams_are : streams ≡ tracks
  pub commands_are : commands ≡ tracks
  pub blocks : (tracks ≤ length links.streams.now) × (tracks ≤ length links.commands.now)
  pub scales : All (λ setting. setting.scale ≤ 4096) c.settings
  pub pipe_is : pipe ≡ pipe_size c

-- A track's stream proxy is there exactly if it is home
abbrev pub AreThere : List TrackKept → List (Option ServerState) → Type 0
AreThere tracks streams = (i : ℕ) → i < length tracks → is_some (stream_at streams i) ≡ is_home (track_at tracks i).holder

-- the stream proxies that are there, and the command proxies, are of their tracks' blocks
pub record HasProxies (links : Links) (tracks : List TrackKept) (streams : List (Option ServerState)) (commands : List ServerState) : Type 0 where
  pub there : AreThere tracks streams
  pub streams_of : (i : ℕ) (s : ServerState) → stream_at streams i ≡ Some s → IsStreamOf links.streams.now i s
  pub commands_of : (i : ℕ) (s : ServerState) → slice_get commands i ≡ Some s → IsStreamOf links.commands.now i s

-- a slot's item is out exactly if a track that has the slot isn't home
pub record IsOut (tracks : List TrackKept) (out : List Bool) : Type 0 where
  pub at_slot : (k : ℕ) → 1 ≤ k → k < slots → is_out out k ≡ true → (i : ℕ) × (i < length tracks) × (slot_number (track_at tracks i) ≡ k) × (is_home (track_at tracks i).holder ≡ false)
  pub whole : length out ≡ slots
  pub of_track : (i : ℕ) → is_home (track_at tracks i).holder ≡ false → is_out out (slot_number (track_at tracks i)) ≡ true

-- Before the first turn there is no hand, each stream proxy is home, and each can still split its hand off
pub record HasNoHands (m : NormalState) : Type 0 where
  pub none : m.hands ≡ []
  pub home : (i : ℕ) → is_home (track_at m.tracks i).holder ≡ true
  pub whole : (i : ℕ) (s : ServerState) → stream_at m.streams i ≡ Some s → s.pass.has_hand ≡ true

-- each track has a hand, which is of its stream block
pub record HaveHands (blocks : List Made) (tracks : ℕ) (hands : List HandSide) : Type 0 where
  pub whole : length hands ≡ tracks
  pub flags_of : (i : ℕ) (flag : HandSide) → slice_get hands i ≡ Some flag → slice_get blocks i ≡ Some (hand_made flag)

-- there is a record for each track, in the entry or spare, each with room for the looks of a turn, and either list has room for all
pub record HasTurns (tracks : ℕ) (turns spare : Roomy TrackTurn) : Type 0 where
  pub together : length turns.items + length spare.items ≡ tracks
  pub turns_room : tracks ≤ turns.room
  pub spare_room : tracks ≤ spare.room
  pub seen : HaveRoom turns.items
  pub left : HaveRoom spare.items

-- how many turns a mixer makes at most: so its numbers of 64 bits have room. At a turn each 20 ms these last for 22 million years
abbrev pub most_turns : ℕ
most_turns = 36028797018963968

-- each track has at most one look of the mixer's own that it was not told of
abbrev pub HaveFewLooks : List TrackKept → Type 0
HaveFewLooks tracks = (i : ℕ) → AreUpTo 1 (track_at tracks i).own

-- What each step of a turn keeps: the kept values are sound, the proxies are those of its tracks, and the ends are those of the links
pub record IsTied (links : Links) (m : NormalState) : Type 0 where
  pub sound : IsSound m.tracks m.mutator.draft
  pub sizes : HasSizes links (setup_of m) (length m.tracks) (length m.streams) (length m.commands) m.pipe.pass.part.shape.frames
  pub proxies : HasProxies links m.tracks m.streams m.commands
  pub out : IsOut m.tracks m.mutator.out
  pub linked : AreLinked links m.mutator.past.key m.mutator.past.queue m.reader.cell (in_made m.pipe)

-- a mixer is in order between two turns
pub record IsInOrder (links : Links) (m : NormalState) : Type 0 where
  pub tied : IsTied links m
  pub small : IsSmall m.turns (setup_of m) (kept_of m)
  pub looks : HaveFewLooks m.tracks
  pub none_yet : m.turns ≡ 0 → HasNoHands m
  pub hands : 1 ≤ m.turns → HaveHands links.streams.now (length m.tracks) m.hands
  pub turns : HasTurns (length m.tracks) m.entry.tracks m.spare_turns
  pub takes : HasTakes (asked (setup_of m)) (length m.tracks) m.entry.mixes m.spare_takes
  pub idle : m.mutator.editing ≡ false

-- a mixer whose draft is edited, and has had so many edits at most
pub record IsOpen (links : Links) (edits : ℕ) (m : NormalState) : Type 0 where
  pub tied : IsTied links m
  pub generations : (k : ℕ) → (slot_of m.mutator.draft k).generation ≤ edits
  pub changes : m.mutator.draft.tracks_gen ≤ edits
  pub editing : m.mutator.editing ≡ true

-- A mixer in a turn, once it has begun and the hands are there, after so many turns before
pub record IsGoing (links : Links) (turns : ℕ) (m : NormalState) : Type 0 where
  pub tied : IsTied links m
  pub small : IsSmall turns (setup_of m) (kept_of m)
  pub looks : HaveFewLooks m.tracks
  pub hands : HaveHands links.streams.now (length m.tracks) m.hands
  pub turns_room : HasTurns (length m.tracks) m.entry.tracks m.spare_turns
  pub takes_room : HasTakes (asked (setup_of m)) (length m.tracks) m.entry.mixes m.spare_takes
  pub none : (m.entry.tracks.items ≡ []) × (m.entry.mixes.items ≡ [])
  pub idle : m.mutator.editing ≡ false
  pub next : m.turns ≡ turns + 1
