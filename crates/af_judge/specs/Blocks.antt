-- What a judge keeps of a block, and what each step of its parties leaves.
use Rattle.std.specs.Prelude.{◌≡◌, ℕ, ◌+◌, ◌≤◌, ◌^◌, min, Bool, true, false, if◌then◌else◌, is_some, List, [], ◌∷◌, ◌++◌, length, take, drop, flat_map, All, Some, slice_get, fold}
use Rattle.af_base.specs.declared.event.ClientEvent.{ClientEvent}
use Rattle.af_base.specs.declared.event.ClientEvent.TheVariants as client
use Rattle.af_base.specs.declared.event.ServerEvent.{ServerEvent}
use Rattle.af_base.specs.declared.event.ServerEvent.TheVariants as server
use Rattle.af_base.specs.declared.event.HandEvent.{HandEvent}
use Rattle.af_base.specs.declared.event.HandEvent.TheVariants as hand
use Rattle.af_base.specs.declared.log.SlotEntry.{SlotEntry}
use Rattle.af_model.specs.declared.point.TrackPoint.{TrackPoint}
use Rattle.af_model.specs.declared.shape.Shape.{Shape}
use Rattle.af_base.specs.declared.turn.CommandLook.{CommandLook}
use Rattle.af_life.specs.Looks.{as_slot, command_events}
use Rattle.af_life.specs.Obeys.{shows_command}
use Rattle.af_model.specs.Cycles.{Listed, cycle_events, kept}
use Rattle.af_merges.specs.Merges.{HasLegalOrder}
use Rattle.af_model.specs.History.{is_lawful}
use Rattle.af_model.specs.Point.{start}
use Rattle.af_model.specs.ServerCalls.{ServerKept, server_begins, server_keeps, server_kept, look_events}
use Rattle.af_runs.specs.Blocks.{BlockTold, client_list, hand_list, server_list}
use Rattle.af_runs.specs.Fronts.{front_of}
use Rattle.af_judge.specs.declared.server_judge.ServerJudge.{ServerJudge}
use Rattle.af_judge.specs.declared.words_judge.Run.{Run}
use Rattle.af_judge.specs.declared.words_judge.Taken.{Taken}
use Rattle.af_judge.specs.Servers.{most_counted, server_at}

-- ## The lists

-- the point that a block begins at, and what each party of it did
pub record Lists : Type 0 where
  pub from : TrackPoint
  pub client : List ClientEvent
  pub server : List ServerEvent
  pub hand : List HandEvent

-- so many events are joined, few enough to be judged
pub record IsJoined {A : Type 0} (count : ℕ) (joined : List A) : Type 0 where
  pub is : count ≡ length joined
  pub few : count ≤ 2 ^ 30

-- ## The words

-- the words released, and those taken with their places
pub record Words : Type 0 where
  pub released : List ℕ
  pub taken : List Taken

-- the word was released at its place
abbrev pub IsReleased : List ℕ → Taken → Type 0
IsReleased released t = slice_get released t.at ≡ Some t.word

-- words taken from a place on
abbrev pub placed_from : ℕ → List ℕ → List Taken
placed_from place [] = []
placed_from place (word ∷ words) = record { at = min most_counted place; word = word } ∷ placed_from (place + 1) words

-- the words of a run, each with its place
abbrev pub run_words : List ℕ → Run → List Taken
run_words released r = placed_from r.at (take r.count (drop r.at released))

abbrev pub runs_words : List ℕ → List Run → List Taken
runs_words released runs = flat_map (run_words released) runs

-- a run lies among the words released
abbrev pub LiesWithin : List ℕ → Run → Type 0
LiesWithin released r = r.at + r.count ≤ length released

-- the run of these words, from a place on
pub record IsRunOf (released : List ℕ) (at : ℕ) (words : List ℕ) (r : Run) : Type 0 where
  pub place : r.at ≡ at
  pub within : LiesWithin released r
  pub words_are : words ≡ take r.count (drop r.at released)

-- runs of words released, and words by themselves of which the first ones, so many, were released at their places
pub record AreWords (released : List ℕ) (runs : List Run) (taken : List Taken) (known : ℕ) : Type 0 where
  pub within : All (LiesWithin released) runs
  pub few : known ≤ length taken
  pub are : All (IsReleased released) (take known taken)

-- ## The block

-- a block: the sizes, whether no poke is told in the whole journal, what each party did, and the words released and taken
pub record BlockJudged : Type 0 where
  pub shape : Shape
  pub lawful : Bool
  pub client : List ClientEvent
  pub server : List ServerEvent
  pub hand : List HandEvent
  pub released : List ℕ
  pub taken : List Taken

-- a block of which nothing is told
abbrev pub new_judged : Shape → Bool → BlockJudged
new_judged shape lawful = record { shape = shape; lawful = lawful; client = []; server = []; hand = []; released = []; taken = [] }

-- how many frames the releases say
abbrev pub raised_by : ClientEvent → ℕ
raised_by (client.Release count) = count
raised_by _ = 0

abbrev pub raised_in : List ClientEvent → ℕ
raised_in events = fold (λ sofar e. sofar + raised_by e) 0 events

-- what is kept of a block beside the lists follows from them
pub record IsBlock (server : ServerJudge) (tame : Bool) (raised : ℕ) (lists : Lists) : Type 0 where
  pub server_is : server ≡ server_at server.shape (server_kept server.shape lists.server)
  pub from_is : lists.from ≡ start server.shape
  pub tame_is : tame ≡ is_lawful lists.client
  pub raised_is : raised ≡ min most_counted (raised_in lists.client)
  pub wrap_few : server.shape.wrap ≤ 2 ^ 31

-- a block's server as a cycle or a turn finds it
abbrev pub listed_in : BlockJudged → Listed
listed_in j = record { shape = j.shape; events = j.server }

-- a block after its client did these events, its server, its hand
abbrev pub client_more : List ClientEvent → BlockJudged → BlockJudged
client_more events j = record j { client = j.client ++ events }

abbrev pub server_more : List ServerEvent → BlockJudged → BlockJudged
server_more events j = record j { server = j.server ++ events }

abbrev pub hand_more : List HandEvent → BlockJudged → BlockJudged
hand_more events j = record j { hand = j.hand ++ events }

-- a block after these words were released
abbrev pub released_more : List ℕ → BlockJudged → BlockJudged
released_more words j = record j { released = j.released ++ words }

-- a block after these words were taken, by a server with this list before the take
abbrev pub taken_more : List ServerEvent → List ℕ → BlockJudged → BlockJudged
taken_more events words j = record j { taken = j.taken ++ placed_from (server_kept j.shape events).consumed words }

-- the events of a look by the front that a journal tells, by a server that wasn't shut
abbrev pub look_told : ℕ → Listed → SlotEntry → List ServerEvent
look_told asked s slot = if is_some (kept s).shut then [] else look_events slot.seen slot.flush slot.rear (front_of asked s slot)

-- the words taken, each with its place by the server's list: those before it that were taken or dropped
abbrev pub taken_in : Shape → ServerKept → List ServerEvent → List ℕ → List Taken
taken_in shape k [] words = []
taken_in shape k (server.Take count ∷ events) words = placed_from k.consumed (take count words) ++ taken_in shape (server_keeps shape k (server.Take count)) events (drop count words)
taken_in shape k (e ∷ events) words = taken_in shape (server_keeps shape k e) events words

-- the words are as many as the takes say
abbrev pub WholeTakes : List ServerEvent → List ℕ → Type 0
WholeTakes [] words = words ≡ []
WholeTakes (server.Take count ∷ es) words = (count ≤ length words) × WholeTakes es (drop count words)
WholeTakes (e ∷ es) words = WholeTakes es words

-- the last event saw front
abbrev pub saw_front : Bool → ServerEvent → Bool
saw_front b (server.SawFront front) = true
saw_front b _ = false

-- frames are dropped right after a look at front
abbrev pub FollowsLook : Bool → ServerEvent → Type 0
FollowsLook b (server.Drop to) = b ≡ true
FollowsLook b _ = Unit {0}

abbrev pub AllFollow : Bool → List ServerEvent → Type 0
AllFollow b [] = Unit {0}
AllFollow b (e ∷ es) = FollowsLook b e × AllFollow (saw_front b e) es

-- what is kept of a block of a run, of which each word was taken by a take, and frames were dropped by looks
pub record IsBlockOf (j : BlockJudged) (b : BlockTold) : Type 0 where
  pub shape : j.shape ≡ b.shape
  pub client : j.client ≡ client_list b
  pub server : j.server ≡ server_list b
  pub hand : j.hand ≡ hand_list b
  pub released : j.released ≡ b.released
  pub taken : j.taken ≡ taken_in b.shape (server_begins b.shape) (server_list b) b.taken
  pub whole : WholeTakes (server_list b) b.taken
  pub follow : AllFollow false (server_list b)

-- ## The meetings

-- client and server learn how much the other did before
abbrev pub servers_met : BlockJudged → BlockJudged
servers_met j = server_more (server.Learn (length j.client) ∷ []) (client_more (client.Learn (length j.server) ∷ []) j)

-- the hand meets the client
abbrev pub hand_met : BlockJudged → BlockJudged
hand_met j = hand_more (hand.Met (length j.client) ∷ []) j

-- client and server meet, and hand and client, if these say so
abbrev pub parties_met : Bool → Bool → BlockJudged → BlockJudged
parties_met server_there hand_there j = let k = if server_there then servers_met j else j in if hand_there then hand_met k else k

-- ## The looks

-- a mixer's look at a stream block: the gains, the look, the words of the frames taken, and what follows
abbrev pub played_told : ℕ → SlotEntry → List ℕ → BlockJudged → BlockJudged
played_told asked slot words j =
    let s = listed_in j in
    taken_more (j.server ++ server.SawGain slot.gains ∷ look_told asked s slot) words (server_more (cycle_events asked s slot (front_of asked s slot)) j)

-- the normal mixer's look at a command block, with the words of a command
abbrev pub commanded_told : CommandLook → BlockJudged → BlockJudged
commanded_told look j =
    let s = listed_in j in
    let slot = as_slot look in
    taken_more (j.server ++ look_told 2 s slot) (if shows_command look.seen then look.code ∷ look.argument ∷ [] else []) (server_more (command_events s look (front_of 2 s slot)) j)

-- ## Histories

-- the lists have a legal order, as many words were released as the releases say, and each word taken was released at its place
pub record HasItsHistory (j : BlockJudged) : Type 0 where
  pub ordered : HasLegalOrder (start j.shape) j.client j.server j.hand
  pub raised : raised_in j.client ≡ length j.released
  pub taken : All (IsReleased j.released) j.taken
