-- What a search that goes on piece by piece keeps.
use Rattle.std.specs.Prelude.{◌≡◌, ◌≤◌, ◌∷◌, [], List, true, All, IfSome, length, take, drop}
use Rattle.af_model.specs.declared.point.TrackPoint.{TrackPoint}
use Rattle.af_merges.specs.declared.search.Stage.{Stage}
use Rattle.af_merges.specs.declared.pieces.Search.{Search}
use Rattle.af_merges.specs.Stages.{Lists, begin, InBounds}
use Rattle.af_merges.specs.MergePieces.{IsFrontier, names_at_least}
use Rattle.af_merges.specs.OneOrder.{LeadsTo}

abbrev pub lists_in : Search → Lists
lists_in s = record { client = s.client.items; server = s.server.items; hand = s.hand.items }

-- the new lists begin with the old ones
pub record GoOn (old new : Lists) : Type 0 where
  pub client : take (length old.client) new.client ≡ old.client
  pub server : take (length old.server) new.server ≡ old.server
  pub hand : take (length old.hand) new.hand ≡ old.hand

-- the events of the lists that the open stages are of
abbrev pub searched : Search → Lists
searched s = record { client = take s.clients s.client.items; server = take s.servers s.server.items; hand = take s.hands s.hand.items }

-- an order of these lists leads to the stage
pub record IsOnAnOrder (l : Lists) (from : TrackPoint) (m : Stage) : Type 0 where
  pub way : LeadsTo l (begin from) m
  pub bounds : InBounds l m

-- No more events were searched than there are.
pub record AreThere (s : Search) : Type 0 where
  pub clients : s.clients ≤ length s.client.items
  pub servers : s.servers ≤ length s.server.items
  pub hands : s.hands ≤ length s.hand.items

-- the open stages are those of the lists that were searched, once they are known, and an order of all events leads to the stage at its end
pub record Knows (s : Search) : Type 0 where
  pub frontier : s.known ≡ true → IsFrontier (searched s) s.from s.open.items
  pub bounds : s.known ≡ true → All (InBounds (searched s)) s.open.items
  pub there : s.known ≡ true → AreThere s
  pub end : IfSome s.end (IsOnAnOrder (lists_in s) s.from)

-- a search for the lists may begin at these stages
pub data MayStart (s : Search) (starts : List Stage) : Type 0 where
  Afresh : starts ≡ begin s.from ∷ [] → MayStart s starts
  GoesOn : AreThere s → names_at_least s.clients (drop s.hands s.hand.items) ≡ true → IsFrontier (searched s) s.from starts → All (InBounds (searched s)) starts → MayStart s starts

pub record SameLists (old new : Search) : Type 0 where
  pub from : new.from ≡ old.from
  pub client : new.client ≡ old.client
  pub server : new.server ≡ old.server
  pub hand : new.hand ≡ old.hand

-- what was searched is as it was
pub record SameSearched (old new : Search) : Type 0 where
  pub from : new.from ≡ old.from
  pub stages : new.open ≡ old.open
  pub known : new.known ≡ old.known
  pub clients : new.clients ≡ old.clients
  pub servers : new.servers ≡ old.servers
  pub hands : new.hands ≡ old.hands
