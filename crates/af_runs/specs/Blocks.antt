-- A block of a run: what its three parties did, as a journal tells it, and what they did to it by their meetings.
use Rattle.std.specs.Prelude.{◌≡◌, ℕ, Bool, fold, List, [], ◌∷◌, ◌++◌, map, length}
use Rattle.af_base.specs.declared.event.ClientEvent.{ClientEvent}
use Rattle.af_base.specs.declared.event.ClientEvent.TheVariants as client
use Rattle.af_base.specs.declared.event.ServerEvent.{ServerEvent}
use Rattle.af_base.specs.declared.event.ServerEvent.TheVariants as server
use Rattle.af_base.specs.declared.event.HandEvent.{HandEvent}
use Rattle.af_base.specs.declared.event.HandEvent.TheVariants as hand
use Rattle.af_model.specs.declared.shape.Shape.{Shape}
use Rattle.af_model.specs.Cycles.{Listed}
use Rattle.af_model.specs.History.{Moment, by_client, by_server, by_hand, client_of, server_of, hand_of, is_lawful, HasHistory}

-- a block: its sizes, the events of all its parties in the order in which they are told, the newest first, and the words of the frames released and taken
pub record BlockTold : Type 0 where
  pub shape : Shape
  pub told : List Moment
  pub released : List ℕ
  pub taken : List ℕ

-- a block on which nothing was done
abbrev pub new_block : Shape → BlockTold
new_block shape = record { shape = shape; told = []; released = []; taken = [] }

-- ## The lists of a block's parties

-- the events of a block's client
abbrev pub client_list : BlockTold → List ClientEvent
client_list b = client_of b.told

-- the events of a block's server
abbrev pub server_list : BlockTold → List ServerEvent
server_list b = server_of b.told

-- the events of a block's hand
abbrev pub hand_list : BlockTold → List HandEvent
hand_list b = hand_of b.told

-- a block's server as a cycle or a turn finds it
abbrev pub listed : BlockTold → Listed
listed b = record { shape = b.shape; events = server_list b }

-- no poke was told so far
abbrev pub is_tame : BlockTold → Bool
is_tame b = is_lawful (client_list b)

-- which blocks have no poke in the whole journal, by the numbers of their tracks
pub record Marks : Type 0 where
  pub streams : ℕ → Bool
  pub commands : ℕ → Bool

-- ## What a party does

-- a block after some moments more
abbrev pub tells : List Moment → BlockTold → BlockTold
tells moments b = record b { told = fold (λ told moment. moment ∷ told) b.told moments }

-- a block after its client did these events
abbrev pub client_does : List ClientEvent → BlockTold → BlockTold
client_does events b = tells (map by_client events) b

-- a block after its server did these events
abbrev pub server_does : List ServerEvent → BlockTold → BlockTold
server_does events b = tells (map by_server events) b

-- a block after its hand did these events
abbrev pub hand_does : List HandEvent → BlockTold → BlockTold
hand_does events b = tells (map by_hand events) b

-- a block after these words were taken
abbrev pub took : List ℕ → BlockTold → BlockTold
took words b = record b { taken = b.taken ++ words }

-- ## Meetings

-- the client and the server learn how much the other one did before
abbrev pub meets : BlockTold → BlockTold
meets b = server_does (server.Learn (length (client_list b)) ∷ []) (client_does (client.Learn (length (server_list b)) ∷ []) b)

-- the hand meets the client
abbrev pub meets_flag : BlockTold → BlockTold
meets_flag b = hand_does (hand.Met (length (client_list b)) ∷ []) b

-- ## History

-- the lists of the parties stand in some legal order, by which the frames taken are those released at their places
abbrev pub HasBlockHistory : BlockTold → Type 0
HasBlockHistory b = HasHistory b.shape (client_list b) b.released (server_list b) b.taken (hand_list b)

-- the order in which the events are told is such a legal order: each event sees what all those before it left
abbrev pub IsHistoryAsTold : BlockTold → Type 0
IsHistoryAsTold b = (h : HasBlockHistory b) × (h.order ≡ b.told)
