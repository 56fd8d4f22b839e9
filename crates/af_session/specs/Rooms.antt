-- What the rounds of a session are lent: what its parties are given, and the room that a round works in.
use Rattle.std.specs.Prelude.{◌≡◌, ℕ, ◌+◌, ◌*◌, ◌<◌, ◌≤◌, ◌++◌, true, false, List, [], length}
use Rattle.af_fast.specs.Mixer.{IsInOrder as IsFastInOrder, IsLinked, MixerState}
use Rattle.af_link.specs.declared.links.Links.{Links}
use Rattle.af_model.specs.Journals.{RoundNoted}
use Rattle.af_session.specs.declared.rig.Rig.{Rig}
use Rattle.af_session.specs.declared.room.Room.{Room}
use Rattle.af_session.specs.Rounds.{Given, IsReady}
use Rattle.af_session.specs.Shown.{Follows, FollowsRound, HasPlaces}
use Rattle.af_session.specs.Together.{SessionState}
use Rattle.af_tally.specs.Sound.{IsWhole, pcm_of}
use Rattle.af_tally.specs.Summaries.{nothing_shown}
use Rattle.af_tally.specs.Tallies.{IsTally, Tallied}

-- ## What the parties are given

-- the tracks of the script, and the frames of their files
abbrev pub given_of : Rig → Given
given_of rig = record { tracks = rig.tracks.now; files = rig.files.now }

-- after so many rounds these parties are ready for the next one
abbrev pub IsReadyOn : Rig → ℕ → SessionState → Type 0
IsReadyOn rig n s = IsReady rig.links (given_of rig) n s

-- if these parties were ready for a round, they are ready for the one after it
abbrev pub StaysReadyOn : Rig → SessionState → SessionState → Type 0
StaysReadyOn rig s t = (n : ℕ) → IsReadyOn rig n s → IsReadyOn rig (n + 1) t

-- ## The room

-- room for so many frames a cycle and for so many tracks, of which nothing was noted yet
pub record IsNewRoom (frames tracks : ℕ) (room : Room) : Type 0 where
  pub buffer : length room.buffer.items ≡ frames
  pub bytes : room.bytes ≡ record { items = []; room = 256 * frames }
  pub tally : IsTally (nothing_shown frames tracks) room.tally
  pub released : room.released ≡ record { items = []; room = tracks }

-- a room has the sizes that it had, and its counts
pub record KeepsRoom (room room' : Room) : Type 0 where
  pub buffer : length room'.buffer.items ≡ length room.buffer.items
  pub bytes : room'.bytes.room ≡ room.bytes.room
  pub released : room'.released ≡ room.released

-- these bytes more stand in a room, behind those that stood there
abbrev pub HasAdded : Room → List ℕ → Room → Type 0
HasAdded room added room' = room'.bytes ≡ record room.bytes { items = room.bytes.items ++ added }

-- ## A cycle in it

-- the fast mixer is in order over these links, between two cycles, and its log is whole
pub record CanCycle (links : Links) (m : MixerState) : Type 0 where
  pub linked : IsLinked links m
  pub order : IsFastInOrder m
  pub between : m.adopted ≡ false
  pub whole : IsWhole m.log

-- the fast mixer is in order over these links, it has polled, and its log is whole
pub record CanMix (links : Links) (m : MixerState) : Type 0 where
  pub linked : IsLinked links m
  pub order : IsFastInOrder m
  pub polled : m.adopted ≡ true
  pub whole : IsWhole m.log

-- the buffer has the frames of a cycle of this mixer, there is room for the bytes of so many cycles, and the tally has its places
pub record HasRoom (cycles : ℕ) (m : MixerState) (room : Room) : Type 0 where
  pub buffer : length room.buffer.items ≡ m.frames
  pub bytes : length room.bytes.items + 4 * (cycles * m.frames) ≤ room.bytes.room
  pub places : (n : ℕ) × (tracks : ℕ) × (n ≤ 100000) × HasPlaces n tracks (length m.log.entries) room.tally

-- A tally follows what the fast mixer does. It has the looks and the mixed cycles of the entries that the turn added
pub record HasNotedOn (m m' : MixerState) (a b : Tallied) : Type 0 where
  pub follows : Follows m m' a b
  pub places : (n tracks : ℕ) → HasPlaces n tracks (length m.log.entries) a → HasPlaces n tracks (length m'.log.entries) b

-- ## A round in it

-- a tally has its places after so many rounds of these parties
abbrev pub HasPlacesAt : ℕ → SessionState → Tallied → Type 0
HasPlacesAt n s tally = HasPlaces n (length s.clients) (length s.fast.log.entries) tally

-- if a tally had its places before a round, it has them after it
abbrev pub StaysInPlace : SessionState → SessionState → Tallied → Tallied → Type 0
StaysInPlace s t tally tally' = (n : ℕ) → HasPlacesAt n s tally → HasPlacesAt (n + 1) t tally'

-- there is room for a round of these parties
pub record HasRoundRoom (s : SessionState) (room : Room) : Type 0 where
  pub buffer : length room.buffer.items ≡ s.fast.frames
  pub bytes : length room.bytes.items + 64 * s.fast.frames ≤ room.bytes.room
  pub places : (n : ℕ) × (n < 100000) × HasPlacesAt n s room.tally

-- the cycles of a mixer are as long, and as many of them can come in all
abbrev pub KeepsSizes : MixerState → MixerState → Type 0
KeepsSizes m m' = (m'.frames ≡ m.frames) × (m'.cycles ≡ m.cycles)

-- if bytes that went out before, and these behind them, were the sound of the log, they are so again
abbrev pub KeepsSound : MixerState → MixerState → List ℕ → List ℕ → Type 0
KeepsSound m m' bytes bytes' = (before : List ℕ) → before ++ bytes ≡ pcm_of m.frames m.log → before ++ bytes' ≡ pcm_of m.frames m'.log

-- A round that tells this carries a session on: its parties are ready for the next one and have their sizes, the room is kept, and the tally has this round behind those before it, and its places
pub record CarriesOn (rig : Rig) (told : RoundNoted) (s t : SessionState) (room room' : Room) : Type 0 where
  pub ready : StaysReadyOn rig s t
  pub sizes : KeepsSizes s.fast t.fast
  pub kept : KeepsRoom room room'
  pub tally : FollowsRound told s.fast t.fast room.tally room'.tally
  pub places : StaysInPlace s t room.tally room'.tally
