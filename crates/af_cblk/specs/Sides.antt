-- What contracts see of a block and of its passes.
use Rattle.std.specs.Prelude.{◌≡◌, ◌≤◌, ℕ, Bool, true, List}
use Rattle.af_base.specs.declared.event.ServerEvent.{ServerEvent}
use Rattle.af_model.specs.History.{is_lawful}
use Rattle.af_cblk.specs.Parts.{filled, client_saw_front, server_saw_front}
use Rattle.atomic_table.specs.Seated.{TableId}
use Rattle.af_model.specs.declared.shape.Shape.{Shape}
use Rattle.af_cblk.specs.declared.view.ClientPart.{ClientPart}
use Rattle.af_cblk.specs.declared.view.ServerPart.{ServerPart}
use Rattle.af_cblk.specs.declared.view.HandPart.{HandPart}

-- a block: which one it is, and its sizes
pub record Made : Type 0 where
  pub id : TableId
  pub shape : Shape

-- which block the client steps on, and what it has done and knows there
pub record ClientSide : Type 0 where
  pub id : TableId
  pub part : ClientPart

-- which block the server steps on, and what it has done and knows there; the hand is with it until it is split off
pub record ServerSide : Type 0 where
  pub id : TableId
  pub part : ServerPart
  pub has_hand : Bool

-- which block the hand steps on, what it has done there, and the server's events as it knows them from its last meeting
pub record HandSide : Type 0 where
  pub id : TableId
  pub part : HandPart
  pub known : List ServerEvent

-- the block that a pass was made with, and its sizes
abbrev pub client_made : ClientSide → Made
client_made p = record { id = p.id; shape = p.part.shape }

abbrev pub server_made : ServerSide → Made
server_made p = record { id = p.id; shape = p.part.shape }

abbrev pub hand_made : HandSide → Made
hand_made p = record { id = p.id; shape = p.part.shape }

-- the server goes on with this part, and with the hand as before
abbrev pub ServerIs : ServerPart → ServerSide → ServerSide → Type 0
ServerIs s p q = q ≡ (record p { part = s })

-- The client saw this front. A lawful client sees itself within the room
abbrev pub ClientSawFront : ClientSide → ℕ → ClientSide → Type 0
ClientSawFront p front q =
    (q.part ≡ client_saw_front p.part front) × (is_lawful p.part.events ≡ true → filled q.part ≤ q.part.shape.frames)

-- the server saw this front
abbrev pub ServerSawFront : ServerSide → ℕ → ServerSide → Type 0
ServerSawFront p front q = ServerIs (server_saw_front p.part front) p q
