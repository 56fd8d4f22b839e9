-- Which three lists of events of a block some order makes legal, from any point on, and what a `Merge` stands for.
use Rattle.std.specs.Prelude.{◌≡◌, ◌≤◌, ◌<◌, ◌^◌, ◌++◌, List, length, Bool}
use Rattle.af_base.specs.declared.event.ClientEvent.{ClientEvent}
use Rattle.af_base.specs.declared.event.ServerEvent.{ServerEvent}
use Rattle.af_base.specs.declared.event.HandEvent.{HandEvent}
use Rattle.af_model.specs.declared.point.TrackPoint.{TrackPoint}
use Rattle.af_model.specs.History.{Moment, IsLegal, client_of, server_of, hand_of}

-- Some order of all events of the three lists, each list in its order, is legal from the point on
pub record HasLegalOrder (from : TrackPoint) (client : List ClientEvent) (server : List ServerEvent) (hand : List HandEvent) : Type 0 where
  pub order : List Moment
  pub legal : IsLegal from order
  pub client_is : client_of order ≡ client
  pub server_is : server_of order ≡ server
  pub hand_is : hand_of order ≡ hand

-- each list has at most 2^30 events
pub record AreShort (client : List ClientEvent) (server : List ServerEvent) (hand : List HandEvent) : Type 0 where
  pub clients : length client ≤ 2 ^ 30
  pub servers : length server ≤ 2 ^ 30
  pub hands : length hand ≤ 2 ^ 30

-- a point that orders may begin at: positions below 2^62, flushes below 2^31
pub record IsStart (p : TrackPoint) : Type 0 where
  pub released : p.released < 2 ^ 62
  pub consumed : p.consumed < 2 ^ 62
  pub rear_seen : p.rear_seen < 2 ^ 62
  pub flush_at : p.flush_at < 2 ^ 62
  pub drop_to : p.drop_to < 2 ^ 62
  pub flushes : p.flushes < 2 ^ 31

-- a merge: the point that the lists begin at, the lists of all calls so far, and whether memory ran out in one of them
pub record Merged : Type 0 where
  pub from : TrackPoint
  pub client : List ClientEvent
  pub server : List ServerEvent
  pub hand : List HandEvent
  pub spent : Bool

abbrev pub merged : TrackPoint → List ClientEvent → List ServerEvent → List HandEvent → Bool → Merged
merged from client server hand spent = record { from = from; client = client; server = server; hand = hand; spent = spent }

-- three lists with a piece more at the end of each
abbrev pub with_pieces : Merged → List ClientEvent → List ServerEvent → List HandEvent → Merged
with_pieces m client server hand = record m { client = m.client ++ client; server = m.server ++ server; hand = m.hand ++ hand }
