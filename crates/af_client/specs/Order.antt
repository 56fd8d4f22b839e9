-- What contracts see of a client's proxy, and when it is in order.
use Rattle.std.specs.Prelude.{◌≡◌, ℕ, true, length, Option, None}
use Rattle.af_model.specs.Point.{wrapped}
use Rattle.af_model.specs.History.{is_lawful, flushes_of}
use Rattle.af_model.specs.ClientCalls.{ClientKept, client_kept, IsClientList}
use Rattle.af_cblk.specs.declared.view.ClientPart.{ClientPart}
use Rattle.af_cblk.specs.Parts.{released}
use Rattle.af_cblk.specs.Sides.{Made, ClientSide, client_made}

-- a client's proxy: the pass, the word of the client's position, how many flushes it asked for and frames it released, and the front and rear that shut it
pub record ClientState : Type 0 where
  pub pass : ClientSide
  pub rear : ℕ
  pub flushes : ℕ
  pub released : ℕ
  pub shut : Option (ℕ × ℕ)

-- what the list of a client's events tells
abbrev pub client_kept_of : ClientPart → ClientKept
client_kept_of p = client_kept p.shape.frames p.shape.base p.events

-- The list of events is spelled by calls, and the kept values are those that it gives. A client that has not poked isn't shut
pub record Keeps (p : ClientPart) (rear flushes count : ℕ) (shut : Option (ℕ × ℕ)) : Type 0 where
  pub spelled : IsClientList p.shape.frames p.shape.cells p.shape.base p.events
  pub position_is : (client_kept_of p).position ≡ released p
  pub rear_is : rear ≡ wrapped (released p)
  pub flushes_are : flushes ≡ flushes_of p.events
  pub released_is : count ≡ length p.frames
  pub shut_is : shut ≡ (client_kept_of p).shut
  pub lawful_open : is_lawful p.events ≡ true → shut ≡ None

-- a proxy is in order: its maker establishes this, and each call and each meeting keeps it
abbrev pub IsInOrder : ClientState → Type 0
IsInOrder c = Keeps c.pass.part c.rear c.flushes c.released c.shut

-- the proxy is of this block, and in order
abbrev pub IsClientOf : Made → ClientState → Type 0
IsClientOf block c = (client_made c.pass ≡ block) × IsInOrder c
