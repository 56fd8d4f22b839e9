-- What the meetings of all ends of a mixer come to.
use Rattle.std.specs.Prelude.{◌≡◌, ℕ, zero, suc, ◌<◌, ◌≤◌, ◌==◌, ◌&&◌, ◌⊎◌, Bool, true, if◌then◌else◌, List, length, slice_get, Option, Some, None, option_and_then}
use Rattle.af_base.specs.declared.state.FastState.{FastState}
use Rattle.af_base.specs.Log.{slots}
use Rattle.af_cblk.specs.Parts.{hand_met}
use Rattle.af_cblk.specs.Rule.{StartsWith}
use Rattle.af_cblk.specs.Sides.{HandSide, Made, client_made}
use Rattle.af_client.specs.Order.{ClientState}
use Rattle.af_fast.specs.Meets.{Others, HaveHistories, mixer_met, others_met}
use Rattle.af_fast.specs.Mixer.{MixerState}
use Rattle.af_model.specs.History.{is_lawful, HasHistory}
use Rattle.af_model.specs.StateQueue.{carries, slot_of}
use Rattle.af_normal.specs.Meeting.{Meets, MeetsAll, MeetsStream}
use Rattle.af_normal.specs.Mixing.{stream_at}
use Rattle.af_normal.specs.State.{NormalState}
use Rattle.af_server.specs.Order.{ServerState}
use Rattle.af_stateq.specs.Mutates.{at}
use Rattle.af_engine.specs.declared.ends.TrackEnds.{TrackEnds}
use Rattle.af_engine.specs.Engines.{EngineState}

-- ## The ends

-- the normal mixer's ends of the queue, of the report and of the pipe
abbrev pub ends_of : NormalState → Others
ends_of m = record { mutator = m.mutator; reader = m.reader; pipe = m.pipe }

-- a normal mixer with these ends
abbrev pub with_ends : NormalState → Others → NormalState
with_ends m o = record m { mutator = o.mutator; reader = o.reader; pipe = o.pipe }

-- The ends of the two mixers met: each learnt what its other has done so far, and the two lists of each object have a history. Besides the ends only proxies changed
pub record EndsMet (m m' : NormalState) (f f' : MixerState) : Type 0 where
  pub normal : m' ≡ record (with_ends m (others_met f (ends_of m))) { streams = m'.streams; commands = m'.commands; hands = m'.hands }
  pub fast : f' ≡ record (mixer_met f (ends_of m)) { observer = record (mixer_met f (ends_of m)).observer { items = f'.observer.items } }
  pub histories : HaveHistories f' (ends_of m')

-- ## The slot of a track

-- whether the state carries the track's proxy in this slot
abbrev pub is_slot_of : FastState → ℕ → ℕ → Bool
is_slot_of x track slot = carries x slot && ((slot_of x slot).track == track)

-- the first of two numbers if it is given, and else the second
abbrev pub or_else : Option ℕ → Option ℕ → Option ℕ
or_else (Some k) o = Some k
or_else None o = o

-- the first of so many slots that carries the track's proxy
abbrev pub slot_below : FastState → ℕ → ℕ → Option ℕ
slot_below x track zero = None
slot_below x track (suc k) = or_else (slot_below x track k) (if is_slot_of x track k then Some k else None)

-- the first slot that carries the track's proxy
unfoldable pub slot_for : FastState → ℕ → Option ℕ
slot_for x track = slot_below x track slots

-- ## The proxies of a track

-- the proxies that the normal mixer has at home, its hands, and the proxies that the observer holds
pub record Proxies : Type 0 where
  pub streams : List (Option ServerState)
  pub commands : List ServerState
  pub hands : List HandSide
  pub items : List (Option ServerState)

-- the proxies of two mixers
abbrev pub proxies_of : NormalState → MixerState → Proxies
proxies_of m f = record { streams = m.streams; commands = m.commands; hands = m.hands; items = f.observer.items }

-- the proxies of one track: the stream proxy if it is home, the one that is held for it, the hand and the command proxy
pub record Spot : Type 0 where
  pub stream : Option ServerState
  pub held : Option ServerState
  pub hand : Option HandSide
  pub command : Option ServerState

-- the item of a slot, if one is given
abbrev pub item_at : List (Option ServerState) → Option ℕ → Option ServerState
item_at items slot = option_and_then (λ k. at items k) slot

-- what the track has, by the current state of the observer
abbrev pub spot_of : FastState → Proxies → ℕ → Spot
spot_of x p i = record { stream = stream_at p.streams i; held = item_at p.items (slot_for x i); hand = slice_get p.hands i; command = slice_get p.commands i }

-- The hand alone met the client, which stays as it is. If the client has not poked, their lists have a history with the server's list as the hand knows it, which goes on from what the client had learnt
pub record MeetsFlag (block : Made) (c d : ClientState) (h g : HandSide) : Type 0 where
  pub client : d ≡ c
  pub hand : g.part ≡ hand_met h.part (length c.pass.part.events)
  pub history : is_lawful c.pass.part.events ≡ true
      → (taken : List ℕ) × StartsWith g.known c.pass.part.learnt × HasHistory block.shape c.pass.part.events c.pass.part.frames g.known taken g.part.events

-- a proxy that isn't home meets its client and its hand if the observer holds it, and else the hand meets the client
abbrev pub MeetsAway : Made → Option ServerState → HandSide → ClientState → Option ServerState → HandSide → ClientState → Type 0
MeetsAway block None h c s' g d = (s' ≡ None) × MeetsFlag block c d h g
MeetsAway block (Some s) h c s' g d = (t : ServerState) × (s' ≡ Some t) × MeetsAll block s t c d h g

-- the stream's client c, which is d then, met what the track has while its proxy isn't home
pub record AwayMet (block : Made) (a : Spot) (c : ClientState) (b : Spot) (d : ClientState) : Type 0 where
  pub still_away : b.stream ≡ None
  pub hand : HandSide
  pub has_hand : a.hand ≡ Some hand
  pub hand' : HandSide
  pub has_hand' : b.hand ≡ Some hand'
  pub met : MeetsAway block a.held hand c b.held hand' d

-- the stream's client met the proxy at home, with the hand once that was split off, or the one that is held, or the hand alone
abbrev pub SpotMet : Made → Option ServerState → Spot → ClientState → Spot → ClientState → Type 0
SpotMet block (Some s) a c b d = MeetsStream block (Some s) a.hand c b.stream b.hand d × (b.held ≡ a.held)
SpotMet block None a c b d = AwayMet block a c b d

-- The client of a track, whose proxies c and e are d and f then, met the command proxy and what the stream has. All else of it stays, as Stays says
pub record ClientMet (Stays : Type 0) (a b : Spot) (c e d f : ClientState) : Type 0 where
  pub same : Stays
  pub command : ServerState
  pub has_command : a.command ≡ Some command
  pub command' : ServerState
  pub has_command' : b.command ≡ Some command'
  pub commanded : Meets (client_made e.pass) command command' e f
  pub streamed : SpotMet (client_made c.pass) a.stream a c b d

-- the proxies of a track's client met theirs, and nothing else of the client changed
abbrev pub TrackMet : Spot → Spot → TrackEnds → TrackEnds → Type 0
TrackMet a b p q = ClientMet (q ≡ record p { stream = q.stream; command = q.command }) a b p.stream p.command q.stream q.command

-- ## All tracks

-- an item stays, or it is that of one of the first n tracks
abbrev pub ItemStays : FastState → ℕ → List (Option ServerState) → List (Option ServerState) → ℕ → Type 0
ItemStays x n items items' k = (at items' k ≡ at items k) ⊎ ((i : ℕ) × (i < n) × (slot_for x i ≡ Some k))

-- the clients of the first n tracks met their proxies, each as One says, and all else stays
pub record TracksMet {P : Type 0} (One : Spot → Spot → P → P → Type 0) (x : FastState) (n : ℕ) (clients clients' : List P) (a b : Proxies) : Type 0 where
  pub met : (i : ℕ) (p q : P) → i < n → slice_get clients i ≡ Some p → slice_get clients' i ≡ Some q → One (spot_of x a i) (spot_of x b i) p q
  pub rest : (i : ℕ) → n ≤ i → (spot_of x b i ≡ spot_of x a i) × (slice_get clients' i ≡ slice_get clients i)
  pub items : (k : ℕ) → ItemStays x n a.items b.items k

-- All ends met: those of the two mixers, and each track's client with what the track has
pub record Met (a b : EngineState) : Type 0 where
  pub ends : EndsMet a.normal b.normal a.fast b.fast
  pub tracks : TracksMet TrackMet a.fast.observer.past.state (length a.tracks) a.tracks b.tracks (proxies_of a.normal a.fast) (proxies_of b.normal b.fast)
