-- What each step says to its caller. What it says of the words holds if the client has not poked.
use Rattle.std.specs.Prelude.{◌≡◌, ℕ, ◌-◌, ◌≤◌, true, List, length}
use Rattle.atomic_table.specs.Table.{Me, Step}
use Rattle.af_base.specs.declared.event.ClientEvent.TheVariants as client
use Rattle.af_base.specs.declared.event.ServerEvent.{ServerEvent}
use Rattle.af_base.specs.declared.event.ServerEvent.TheVariants as server
use Rattle.af_base.specs.declared.event.HandEvent.{HandEvent}
use Rattle.af_model.specs.Point.{wrapped}
use Rattle.af_model.specs.History.{is_lawful, HasHistory, point}
use Rattle.af_cblk.specs.declared.view.ClientPart.{ClientPart}
use Rattle.af_cblk.specs.declared.view.ServerPart.{ServerPart}
use Rattle.af_cblk.specs.declared.view.View.{View}
use Rattle.af_cblk.specs.Parts.{ahead, released, filled, client_did, client_flushed, client_saw_front, cell_stored, rear_stored, recorded, client_met, server_did, saw_flush, saw_rear, server_saw_front, saw_cell, front_stored, hand_set, hand_met}
use Rattle.af_cblk.specs.Rule.{StartsWith}

-- a seat with its view
abbrev Mine : Type 0
Mine = Me (Unit {0}) View

-- what a step tells: the step, the seat before, the number found or stored, and the seat after
abbrev Told : Type 1
Told = Step (Unit {0}) → Mine → ℕ → Mine → Type 0

-- ## The client

-- the seat goes on with this client's part
abbrev pub WithClient : ClientPart → Mine → Mine → Type 0
WithClient c m m' = m' ≡ (record m.0 { client = c }, m.1)

abbrev pub ClientSeesFront : Told
ClientSeesFront st m n m' =
    WithClient (client_saw_front m.0.client (wrapped n)) m m'
    × (is_lawful m.0.client.events ≡ true → filled (client_saw_front m.0.client (wrapped n)) ≤ m.0.client.shape.frames)

abbrev pub CellIsStored : Told
CellIsStored st m n m' = WithClient (cell_stored m.0.client (st.word - 7) st.first) m m'

abbrev pub RearIsStored : Told
RearIsStored st m n m' = WithClient (rear_stored m.0.client (ahead (released m.0.client) st.first)) m m'

-- the client's list has a history, with lists of the others that go on from what it learnt, and these are the flags at its end
abbrev pub HasFlags : ClientPart → ℕ → Type 0
HasFlags c flags =
    (server : List ServerEvent) × (taken : List ℕ) × (hand : List HandEvent) × StartsWith server c.learnt
    × ((history : HasHistory c.shape c.events c.frames server taken hand) × ((point history).flags ≡ flags))

abbrev pub ClientSeesFlags : Told
ClientSeesFlags st m n m' =
    WithClient (client_did m.0.client (client.SawFlags (recorded (wrapped n)))) m m' × (is_lawful m.0.client.events ≡ true → HasFlags m.0.client (wrapped n))

abbrev pub ClientSeesStatus : Told
ClientSeesStatus st m n m' = WithClient (client_did m.0.client (client.SawStatus (wrapped n))) m m'

abbrev pub Flushes : Told
Flushes st m n m' = WithClient (client_flushed m.0.client) m m'

abbrev pub GainIsStored : Told
GainIsStored st m n m' = WithClient (client_did m.0.client (client.SetGain st.first)) m m'

abbrev pub FlagsAreCleared : Told
FlagsAreCleared st m n m' = WithClient (client_did m.0.client (client.ClearFlags (wrapped n))) m m'

abbrev pub Pokes : Told
Pokes st m n m' = WithClient (client_did m.0.client (client.Poke st.word st.first)) m m'

-- ## The server

-- the seat goes on with this server's part
abbrev pub WithServer : ServerPart → Mine → Mine → Type 0
WithServer s m m' = m' ≡ (record m.0 { server = s }, m.1)

abbrev pub SeesFlush : Told
SeesFlush st m n m' = WithServer (saw_flush m.0.server (wrapped n)) m m'

abbrev pub SeesRear : Told
SeesRear st m n m' = WithServer (saw_rear m.0.server (wrapped n)) m m'

abbrev pub ServerSeesFront : Told
ServerSeesFront st m n m' = WithServer (server_saw_front m.0.server (wrapped n)) m m'

abbrev pub SeesCell : Told
SeesCell st m n m' = WithServer (saw_cell m.0.server (st.word - 7) (wrapped n)) m m'

abbrev pub FrontIsStored : Told
FrontIsStored st m n m' = WithServer (front_stored m.0.server st.first) m m'

abbrev pub SeesGain : Told
SeesGain st m n m' = WithServer (server_did m.0.server (server.SawGain (wrapped n))) m m'

abbrev pub Tallies : Told
Tallies st m n m' = WithServer (server_did m.0.server (server.Tally st.first)) m m'

abbrev pub FlagsAreSet : Told
FlagsAreSet st m n m' = WithServer (server_did m.0.server (server.SetFlags st.first)) m m'

abbrev pub StatusIsStored : Told
StatusIsStored st m n m' = WithServer (server_did m.0.server (server.SetStatus st.first)) m m'

-- ## The hand

abbrev pub HandSets : Told
HandSets st m n m' = m' ≡ (record m.0 { hand = hand_set m.0.hand }, m.1)

-- ## Meetings

-- the lists of client, server and hand have a history
abbrev pub Meeting : View → List HandEvent → Type 0
Meeting v hand = HasHistory v.client.shape v.client.events v.client.frames v.server.events v.server.frames hand

-- client and server have each learnt what the other had done
abbrev pub both_met : View → View
both_met v = record v { client = client_met v.client v.server.events; server = server_did v.server (server.Learn (length v.client.events)) }

-- The seat has the client's and the server's part. The client learns first
abbrev pub ClientLearns : Told
ClientLearns st m n m' = WithClient (client_met m.0.client m.0.server.events) m m'

-- the server learns what the client had done before that
abbrev pub ServerLearns : Told
ServerLearns st m n m' =
    WithServer (server_did m.0.server (server.Learn (length m.0.client.events - 1))) m m'
    × (is_lawful m.0.client.events ≡ true
    → (hand : List HandEvent) × (m.0.is_hand ≡ true → hand ≡ m.0.hand.events) × Meeting m'.0 hand)

-- The seat has the client's and the hand's part. The server may have gone on, and the hand knows then what it has done
abbrev pub HandMeets : Told
HandMeets st m n m' =
    (m' ≡ (record m.0 { hand = hand_met m.0.hand (length m.0.client.events); known = m'.0.known }, m.1))
    × (m.0.is_server ≡ true → m'.0.known ≡ m.0.server.events)
    × (is_lawful m.0.client.events ≡ true
    → (taken : List ℕ) × StartsWith m'.0.known m.0.client.learnt
    × (m.0.is_server ≡ true → taken ≡ m.0.server.frames)
    × HasHistory m.0.client.shape m.0.client.events m.0.client.frames m'.0.known taken m'.0.hand.events)

-- The seat has the server's and the hand's part: the server's list goes on from what the hand knows of it
abbrev pub HandRecalls : Told
HandRecalls st m n m' = (m' ≡ m) × StartsWith m.0.server.events m.0.known
