-- What contracts see of the two ends of a pipe, and what always holds of them.
use Rattle.std.specs.Prelude.{◌≡◌, ℕ, ◌+◌, ◌≤◌, true, false, List, [], ◌∷◌, ◌++◌, length, map}
use Rattle.af_base.specs.declared.frame.Frame.{Frame}
use Rattle.af_base.specs.declared.event.ServerEvent.{ServerEvent}
use Rattle.af_base.specs.declared.event.ServerEvent.TheVariants as server
use Rattle.af_base.specs.Sample.{packed_word}
use Rattle.af_model.specs.Point.{wrapped}
use Rattle.af_model.specs.History.{is_lawful}
use Rattle.af_model.specs.PipeHistory.{room_by, releases_of, IsPutList, put_kept, IsTakeList}
use Rattle.af_cblk.specs.declared.view.ClientPart.{ClientPart}
use Rattle.af_cblk.specs.declared.view.ServerPart.{ServerPart}
use Rattle.af_cblk.specs.Shape.{IsShape}
use Rattle.af_cblk.specs.Sides.{Made, ClientSide, ServerSide, client_made, server_made}
use Rattle.af_server.specs.Order.{IsReady}

-- the pass of the end that puts, and the room that is left by the front last seen
pub record InSide : Type 0 where
  pub pass : ClientSide
  pub room : ℕ

-- the pass of the end that takes, and how many frames the last look shows and nothing took since
pub record OutSide : Type 0 where
  pub pass : ServerSide
  pub shown : ℕ

-- the pipe that an end was made with
abbrev pub in_made : InSide → Made
in_made p = client_made p.pass

abbrev pub out_made : OutSide → Made
out_made p = server_made p.pass

-- the room by the front last seen
abbrev pub room_of : ClientPart → ℕ
room_of p = room_by p.shape.frames (length p.frames) p.front

-- These frames were put: they were released in their order, and but for the cells stored all else is as before
abbrev pub HasPut : ClientPart → List Frame → ClientPart → Type 0
HasPut p frames q =
    q ≡ (record p {
      events = p.events ++ releases_of p.shape.cells (length p.frames) (length frames);
      frames = p.frames ++ map packed_word frames;
      stored = q.stored;
    })

-- these frames were taken in their order, from the front last seen on
abbrev pub taken_by : ServerPart → List Frame → ServerPart
taken_by s frames =
    record s {
      events = s.events ++ server.Take (length frames) ∷ [];
      frames = s.frames ++ map packed_word frames;
      front = wrapped (s.front + length frames);
      fresh = false;
      flush_fresh = false;
      rear_fresh = false;
      loaded = [];
    }

-- An end puts frames, looks at front and meets, and does nothing else. It keeps the word of the number of frames put, and the room
pub record IsPutting (p : ClientPart) (rear room : ℕ) : Type 0 where
  pub shape : IsShape p.shape
  pub from_zero : p.shape.base ≡ 0
  pub list : IsPutList p.shape.frames p.events
  pub kept : put_kept p.shape.frames p.events ≡ (record { put = length p.frames; front = p.front })
  pub lawful : is_lawful p.events ≡ true
  pub rear_is : rear ≡ wrapped (length p.frames)
  pub room_is : room ≡ room_of p

-- An end looks, takes frames and meets, and does nothing else. It keeps the front and the rear last seen, and how many frames may be taken
pub record IsTaking (s : ServerPart) (front rear shown : ℕ) : Type 0 where
  pub shape : IsShape s.shape
  pub from_zero : s.shape.base ≡ 0
  pub flat : s.shape.wrap ≡ 0
  pub list : IsTakeList s.events
  pub settled : s.noticed ≡ false
  pub front_is : front ≡ s.front
  pub rear_is : rear ≡ s.rear
  pub ready : 1 ≤ shown → IsReady s front shown

-- each front that the end saw is the number of frames that it took before
abbrev pub SeesTaken : ℕ → List ServerEvent → Type 0
SeesTaken taken [] = Unit {0}
SeesTaken taken (server.SawFront front ∷ es) = (front ≡ wrapped taken) × SeesTaken taken es
SeesTaken taken (server.Take count ∷ es) = SeesTaken (taken + count) es
SeesTaken taken (_ ∷ es) = SeesTaken taken es
