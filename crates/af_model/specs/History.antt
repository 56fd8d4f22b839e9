-- One order of the events of all parties of a block. An order lists its newest event first, and a party's list its oldest.
use Rattle.std.specs.Prelude.{◌≡◌, ℕ, ◌+◌, ◌-◌, Bool, true, false, ◌&&◌, max, List, [], ◌∷◌, ◌++◌, length, take, drop}
use Rattle.af_base.specs.declared.event.ClientEvent.{ClientEvent}
use Rattle.af_base.specs.declared.event.ClientEvent.TheVariants as client
use Rattle.af_base.specs.declared.event.ServerEvent.{ServerEvent}
use Rattle.af_base.specs.declared.event.ServerEvent.TheVariants as server
use Rattle.af_base.specs.declared.event.HandEvent.{HandEvent}
use Rattle.af_base.specs.declared.event.HandEvent.TheVariants as hand
use Rattle.af_model.specs.declared.point.TrackPoint.{TrackPoint}
use Rattle.af_model.specs.declared.shape.Shape.{Shape}
use Rattle.af_model.specs.Point.{start, ClientMay, ServerMay, HandMay, after_client, after_server, after_hand}

-- no event is a poke
abbrev pub is_no_poke : ClientEvent → Bool
is_no_poke (client.Poke word value) = false
is_no_poke _ = true

abbrev pub is_lawful : List ClientEvent → Bool
is_lawful [] = true
is_lawful (e ∷ es) = is_no_poke e && is_lawful es

-- how many flushes there are
abbrev pub flush_in : ClientEvent → ℕ
flush_in client.Flush = 1
flush_in _ = 0

abbrev pub flushes_of : List ClientEvent → ℕ
flushes_of [] = 0
flushes_of (e ∷ es) = flush_in e + flushes_of es

pub data Moment : Type 0 where
  by_client : ClientEvent → Moment
  by_server : ServerEvent → Moment
  by_hand : HandEvent → Moment

abbrev pub client_of : List Moment → List ClientEvent
client_of [] = []
client_of (by_client e ∷ order) = client_of order ++ e ∷ []
client_of (by_server e ∷ order) = client_of order
client_of (by_hand e ∷ order) = client_of order

abbrev pub server_of : List Moment → List ServerEvent
server_of [] = []
server_of (by_client e ∷ order) = server_of order
server_of (by_server e ∷ order) = server_of order ++ e ∷ []
server_of (by_hand e ∷ order) = server_of order

abbrev pub hand_of : List Moment → List HandEvent
hand_of [] = []
hand_of (by_client e ∷ order) = hand_of order
hand_of (by_server e ∷ order) = hand_of order
hand_of (by_hand e ∷ order) = hand_of order ++ e ∷ []

abbrev pub after : TrackPoint → List Moment → TrackPoint
after p [] = p
after p (by_client e ∷ order) = after_client (after p order) e
after p (by_server e ∷ order) = after_server (after p order) e
after p (by_hand e ∷ order) = after_hand (after p order) e

abbrev pub met_by : HandEvent → ℕ
met_by (hand.SetFlags bits) = 0
met_by (hand.Met client) = client

-- the most of the client's events that a meeting of the hand named
abbrev pub met_in : List Moment → ℕ
met_in [] = 0
met_in (by_client e ∷ order) = met_in order
met_in (by_server e ∷ order) = met_in order
met_in (by_hand e ∷ order) = max (met_by e) (met_in order)

-- how many of the client's events stand before the hand's last event
abbrev pub clients_at : List Moment → ℕ
clients_at [] = 0
clients_at (by_client e ∷ order) = clients_at order
clients_at (by_server e ∷ order) = clients_at order
clients_at (by_hand e ∷ order) = length (client_of order)

abbrev pub May : TrackPoint → List Moment → Moment → Type 0
May p order (by_client e) = ClientMay (after p order) (length (server_of order)) e
May p order (by_server e) = ServerMay (after p order) (length (client_of order)) e
May p order (by_hand e) = HandMay (length (client_of order)) (met_in order) (clients_at order) e

-- each event is legal at the point that the events before it leave
abbrev pub IsLegal : TrackPoint → List Moment → Type 0
IsLegal p [] = Unit {0}
IsLegal p (m ∷ order) = May p order m × IsLegal p order

-- the frames that the server has, and those that it takes by its next event
abbrev pub with_taken : List ℕ → ℕ → TrackPoint → List ℕ → ServerEvent → List ℕ
with_taken frames base p taken (server.Take count) = taken ++ take count (drop (p.consumed - base) frames)
with_taken frames base p taken _ = taken

-- the frames, of those released, that the takes cover
abbrev pub taken_of : List ℕ → Shape → List Moment → List ℕ
taken_of frames k [] = []
taken_of frames k (by_client e ∷ order) = taken_of frames k order
taken_of frames k (by_server e ∷ order) = with_taken frames k.base (after (start k) order) (taken_of frames k order) e
taken_of frames k (by_hand e ∷ order) = taken_of frames k order

-- There is a legal order of the client's, the server's and the hand's list of a block of this shape. The frames released are as many as the releases say, and those taken are those released at their positions
pub record HasHistory (k : Shape) (client : List ClientEvent) (released : List ℕ) (server : List ServerEvent) (taken : List ℕ) (hand : List HandEvent) : Type 0 where
  pub order : List Moment
  pub legal : IsLegal (start k) order
  pub client_is : client_of order ≡ client
  pub server_is : server_of order ≡ server
  pub hand_is : hand_of order ≡ hand
  pub released_is : (after (start k) order).released ≡ k.base + length released
  pub taken_is : taken_of released k order ≡ taken

-- the point that a history leads to
abbrev pub point : {k : Shape} {client : List ClientEvent} {released : List ℕ} {server : List ServerEvent} {taken : List ℕ} {hand : List HandEvent} → HasHistory k client released server taken hand → TrackPoint
point {k} h = after (start k) h.order
