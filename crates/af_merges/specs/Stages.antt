-- The search's own form of an order: whose event is next, turn by turn, and the stage that it leads to.
use Rattle.std.specs.Prelude.{◌≡◌, ℕ, ◌+◌, ◌<◌, ◌≤◌, ◌*◌, ◌^◌, List, [], ◌∷◌, length, Bool, true, false, Option, Some, None, zero, suc, nat_le, ◌&&◌, ◌||◌, if◌then◌else◌, slice_get, ◌==◌}
use Rattle.std.specs.Option.{option_and_then}
use Rattle.af_model.specs.declared.point.TrackPoint.{TrackPoint}
use Rattle.af_base.specs.declared.event.ClientEvent.{ClientEvent}
use Rattle.af_base.specs.declared.event.ServerEvent.{ServerEvent}
use Rattle.af_base.specs.declared.event.HandEvent.{HandEvent}
use Rattle.af_base.specs.declared.event.HandEvent.TheVariants as hand
use Rattle.af_merges.specs.declared.search.Stage.{Stage}
use Rattle.af_merges.specs.declared.events.Events.{Events}
use Rattle.af_model.specs.Point.{after_hand}
use Rattle.af_merges.specs.MergeSteps.{client_step, server_step}
use Rattle.af_merges.specs.Merges.{AreShort}
use Rattle.af_merges.specs.Walks.{walk}

-- what the three parties of a block saw and did, each in its order
pub record Lists : Type 0 where
  pub client : List ClientEvent
  pub server : List ServerEvent
  pub hand : List HandEvent

-- whose event is next
pub data Who : Type 0 where
  Client : Who
  Server : Who
  Hand : Who

-- If that many events of the client and of the hand have stood, the event at that place of the hand's list
-- is kept if it is a Met: no event of the hand past it has stood before the client's events that it names,
-- and no client event past these before each event of the hand that is before the Met.
abbrev pub keeps_event : HandEvent → ℕ → ℕ → ℕ → Bool
keeps_event (hand.SetFlags bits) place clients hands = true
keeps_event (hand.Met known) place clients hands =
    (nat_le hands (place + 1) || nat_le known clients) && (nat_le clients known || nat_le place hands)

-- each Met of the list, which begins at that place
abbrev pub keeps_mets : List HandEvent → ℕ → ℕ → ℕ → Bool
keeps_mets [] place clients hands = true
keeps_mets (h ∷ hs) place clients hands = keeps_event h place clients hands && keeps_mets hs (place + 1) clients hands

-- the stage m, if it keeps each Met
abbrev pub kept : List HandEvent → Stage → Option Stage
kept hs m = if keeps_mets hs 0 m.clients m.hands then Some m else None

abbrev pub with_client : Stage → TrackPoint → Stage
with_client m p = record { point = p; clients = m.clients + 1; servers = m.servers; hands = m.hands }

abbrev pub with_server : Stage → TrackPoint → Stage
with_server m p = record { point = p; clients = m.clients; servers = m.servers + 1; hands = m.hands }

abbrev pub with_hand : Stage → TrackPoint → Stage
with_hand m p = record { point = p; clients = m.clients; servers = m.servers; hands = m.hands + 1 }

-- the stage after one more event of that party, if there is one and it is legal
abbrev pub move : Lists → Who → Stage → Option Stage
move l Client m =
    option_and_then (λ e. option_and_then (λ p. kept l.hand (with_client m p)) (client_step m.point m.servers e)) (slice_get l.client m.clients)
move l Server m =
    option_and_then (λ e. option_and_then (λ p. Some (with_server m p)) (server_step m.point m.clients e)) (slice_get l.server m.servers)
move l Hand m =
    option_and_then (λ e. kept l.hand (with_hand m (after_hand m.point e))) (slice_get l.hand m.hands)

-- the hand's next event is a Met
abbrev pub is_met : Option HandEvent → Bool
is_met None = false
is_met (Some (hand.SetFlags bits)) = false
is_met (Some (hand.Met known)) = true

-- the hand's next event is a Met that may stand here
abbrev pub takes_met : List HandEvent → Stage → Bool
takes_met hs m = is_met (slice_get hs m.hands) && keeps_mets hs 0 m.clients (m.hands + 1)

abbrev pub hand_only : Lists → Who → Stage → Option Stage
hand_only l Client m = None
hand_only l Server m = None
hand_only l Hand m = move l Hand m

-- One step of the search, but a Met that may stand here stands here: it changes no point, and later it may stand no better.
abbrev pub eager : Lists → Who → Stage → Option Stage
eager l w m = if takes_met l.hand m then hand_only l w m else move l w m

-- the stage before all events
abbrev pub begin : TrackPoint → Stage
begin p = record { point = p; clients = 0; servers = 0; hands = 0 }

-- how many events of all lists have stood
abbrev pub count : Stage → ℕ
count m = m.clients + m.servers + m.hands

abbrev pub HasCount : ℕ → Stage → Type 0
HasCount n m = (count m == n) ≡ true

-- how many events all lists have
abbrev pub total : Lists → ℕ
total l = length l.client + length l.server + length l.hand

-- the stage after all events
pub record IsWhole (l : Lists) (m : Stage) : Type 0 where
  pub client : m.clients ≡ length l.client
  pub server : m.servers ≡ length l.server
  pub hand : m.hands ≡ length l.hand

-- turns that lead through all events of the three lists from that point
abbrev pub HasWalk : Lists → TrackPoint → Type 0
HasWalk l from = (order : List Who) × (end : Stage) × (walk (move l) order (begin from) ≡ Some end) × IsWhole l end

abbrev pub lists_of : Events → Lists
lists_of e = record { client = e.client.now; server = e.server.now; hand = e.hand.now }

-- an event of the hand that is no Met of more client events than these
abbrev pub known_by : ℕ → Option HandEvent → Bool
known_by clients None = true
known_by clients (Some (hand.SetFlags bits)) = true
known_by clients (Some (hand.Met known)) = nat_le known clients

-- the event before that place
abbrev pub event_before : List HandEvent → ℕ → Option HandEvent
event_before hs zero = None
event_before hs (suc k) = slice_get hs k

-- no count passes its type while the lists are as short as they may be
pub record InBounds (l : Lists) (m : Stage) : Type 0 where
  pub released : m.point.released < 2 ^ 62 + 2 ^ 32 * m.clients
  pub rear_seen : m.point.rear_seen < 2 ^ 62 + 2 ^ 32 * m.clients
  pub consumed : m.point.consumed < 2 ^ 62 + 2 ^ 32 * m.clients
  pub flush_at : m.point.flush_at < 2 ^ 62 + 2 ^ 32 * m.clients
  pub drop_to : m.point.drop_to < 2 ^ 62 + 2 ^ 32 * m.clients
  pub flushes : m.point.flushes < 2 ^ 31 + m.clients
  pub clients : m.clients ≤ length l.client
  pub servers : m.servers ≤ length l.server
  pub hands : m.hands ≤ length l.hand
  pub kept : keeps_mets l.hand 0 m.clients m.hands ≡ true

-- the lists are as short as they may be
abbrev pub AreShortLists : Lists → Type 0
AreShortLists l = AreShort l.client l.server l.hand
